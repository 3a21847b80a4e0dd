-- Where the loop stands is `At` (proofs/Turns).
use Rattle.lines.specs.Reader.{word_of}
use Rattle.lines.proofs.Turns.{At}
use Rattle.lines.proofs.values_of.Given as goal

abbrev pub invariant-loop-i : goal.invariant-loop-i
invariant-loop-i l = At (word_of l.fn.action) l.key-items l.s l.values l.at l.i
