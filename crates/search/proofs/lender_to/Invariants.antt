-- No loan behind the rest passes v on to q: those that were passed over are to others (`lender-passed`), the one looked at passes another
-- number on (`lender_else`). A loan that does is the last one (`lender_here`); with none left the lender is item 0.
use mathlib.Core.Path.{◌≡◌}
use lib.ListN.{length}
use Rattle.delegation.specs.Search.{lender_to}
use Rattle.search.specs.Lending.{First}
use Rattle.search.proofs.lender_to.Given as goal

abbrev pub invariant-loop-w : goal.invariant-loop-w
invariant-loop-w l = First l.ls l.rest × (lender_to l.ls l.round l.q.0 l.v (length l.ls) ≡ lender_to l.ls l.round l.q.0 l.v (length l.rest))

abbrev pub decreases-loop-w : goal.decreases-loop-w
decreases-loop-w l = length l.rest
