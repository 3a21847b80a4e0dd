-- `most` is the greatest that the lenders seen so far pass on.
use mathlib.Core.Path.{◌≡◌}
use Prim.Native.Nat.{ℕ, ◌-◌, min}
use lib.ListN.{length, get_or}
use Rattle.bits.specs.Sets.{most}
use Rattle.search.proofs.passed_on.Given as goal

abbrev pub invariant-loop-lent : goal.invariant-loop-lent
invariant-loop-lent l = l.most ≡ most (λ (q : ℕ). min (get_or l.round q 0 - 1) (get_or l.row q 0)) (length l.yielded)
