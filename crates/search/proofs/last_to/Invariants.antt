-- The rest is left of the loans; where its last is to another, so is the front before that (`left_less`).
use lib.ListN.{length}
use Rattle.search.specs.Lending.{LeftTo}
use Rattle.search.proofs.last_to.Given as goal

abbrev pub invariant-loop-w : goal.invariant-loop-w
invariant-loop-w l = LeftTo l.ls l.q.0 l.rest

abbrev pub decreases-loop-w : goal.decreases-loop-w
decreases-loop-w l = length l.rest
