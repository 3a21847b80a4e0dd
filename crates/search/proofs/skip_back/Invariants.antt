-- The rest is left of the loans; where its last 16 are to others, so is the front before these (`left_less`).
use lib.ListN.{length}
use Rattle.search.specs.Lending.{LeftTo}
use Rattle.search.proofs.skip_back.Given as goal

abbrev pub invariant-loop-front : goal.invariant-loop-front
invariant-loop-front l = LeftTo l.ls l.q.0 l.rest

abbrev pub decreases-loop-front : goal.decreases-loop-front
decreases-loop-front l = length l.rest
