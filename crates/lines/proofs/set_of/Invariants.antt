-- Where the loop stands is `Passed` (proofs/Hexadecimal).
use Rattle.lines.proofs.Hexadecimal.{Passed}
use Rattle.lines.proofs.set_of.Given as goal

abbrev pub invariant-loop-b : goal.invariant-loop-b
invariant-loop-b l = Passed l.ds l.b-index l.v
