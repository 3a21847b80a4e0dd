-- Where the loop stands is `Valued` (proofs/Line).
use Rattle.lines.proofs.Line.{Valued}
use Rattle.lines.proofs.value_of.Given as goal

abbrev pub invariant-loop-b : goal.invariant-loop-b
invariant-loop-b l = Valued l.ds l.b-index l.v
