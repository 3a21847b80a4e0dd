-- After each four every entry is the greatest that the loans so far pass on (`raise_part`); after those that are left of the last four
-- that is all loans.
use mathlib.Core.Path.{◌≡◌}
use Prim.Native.Nat.{ℕ, ◌*◌, ◌<◌}
use lib.ListN.{length, get_or}
use Rattle.bits.specs.Sets.{most}
use Rattle.delegation.specs.Search.{arriving}
use Rattle.search.proofs.next_round.Given as goal

abbrev pub invariant-loop-four : goal.invariant-loop-four
invariant-loop-four l =
    (length l.next ≡ 64) × ((q : ℕ) → q < 64 → get_or l.next q 0 ≡ most (arriving l.ls l.round q) (l.four-index * 4))
