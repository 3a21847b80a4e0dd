-- After p turns the first p entries are the heights of their grant bytes (`fill_more`). After 64 turns that is the
-- round.
use mathlib.Core.Path.{◌≡◌}
use Prim.Native.Nat.{ℕ, ◌<◌}
use lib.ListN.{length, get_or}
use Rattle.delegation.specs.Search.{height}
use Rattle.search.proofs.grant_round.Given as goal

-- the first p entries are made
abbrev pub invariant-loop-p : goal.invariant-loop-p
invariant-loop-p l = (length l.round ≡ 64) × ((q : ℕ) → q < l.p → get_or l.round q 0 ≡ height (get_or l.grants q 0))
