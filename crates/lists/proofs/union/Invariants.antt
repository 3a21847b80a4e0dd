-- After k turns the word is the first k words ORed (`or_more`); at the end that is all of them.
use mathlib.Core.Path.{◌≡◌}
use Prim.Native.Nat.{◌≤◌}
use lib.ListN.{length, get_or}
use Rattle.bits.specs.Bits.{or_below}
use Rattle.lists.proofs.union.Given as goal

abbrev pub invariant-loop-w : goal.invariant-loop-w
invariant-loop-w l = (l.w-index ≤ length l.words) × (l.all ≡ or_below l.w-index (λ k. get_or l.words k 0))
