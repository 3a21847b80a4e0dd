-- After k turns it is the person's greatest entry of the first k rounds, and the first round that has it (`best_more`); at the end k is
-- 8. The first such round of eight is below 8 (`first_le`).
use mathlib.Core.Path.{◌≡◌}
use Rattle.bits.specs.Sets.{most, first_at}
use Rattle.delegation.specs.Search.{column}
use Rattle.search.proofs.best_of.Given as goal

-- the greatest entry of the first k rounds, and its place
abbrev pub invariant-loop-k : goal.invariant-loop-k
invariant-loop-k l = (l.e.value ≡ most (column l.rounds l.place) l.k) × (l.e.at ≡ first_at (column l.rounds l.place) l.k)
