-- For each lender the row has what its loans to q behind the rest have at most; with those of the rest that is what all have
-- (`lent-step` for the loan that is laid out, `lent_skip` for those to others).
use mathlib.Core.Path.{◌≡◌}
use Prim.Native.Nat.{ℕ, ◌<◌, max}
use lib.ListN.{length, get_or}
use Rattle.bits.specs.Sets.{most}
use Rattle.search.specs.Lending.{lending, First}
use Rattle.search.proofs.lent_to.Given as goal

abbrev pub invariant-loop-w : goal.invariant-loop-w
invariant-loop-w l =
    First l.ls l.rest × (length l.row ≡ 64)
    × ((p : ℕ) → p < 64 → max (get_or l.row p 0) (most (lending l.ls l.q.0 p) (length l.rest)) ≡ most (lending l.ls l.q.0 p) (length l.ls))

abbrev pub decreases-loop-w : goal.decreases-loop-w
decreases-loop-w l = length l.rest
