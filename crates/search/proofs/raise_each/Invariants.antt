-- After i turns each person's entry is raised to the greatest that the first i loans pass on, since a turn raises its borrower's entry
-- and no other (`raise_more`); at the end that is all loans.
use mathlib.Core.Path.{◌≡◌}
use Prim.Native.Nat.{ℕ, ◌<◌, max}
use lib.ListN.{length, get_or}
use Rattle.bits.specs.Sets.{most}
use Rattle.delegation.specs.Search.{arriving}
use Rattle.search.proofs.raise_each.Given as goal

abbrev pub invariant-loop-w : goal.invariant-loop-w
invariant-loop-w l =
    (length l.next ≡ length l.initial.next)
    × ((q : ℕ) → q < 64 → get_or l.next q 0 ≡ max (get_or l.initial.next q 0) (most (arriving l.ls l.round q) l.w-index))
