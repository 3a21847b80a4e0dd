-- Turn after turn: the run stands after the parts that were taken so far (`Reached`).
use Rattle.lines.specs.Collect.{nothing_held}
use Rattle.reader.specs.Replies.{units_in}
use Rattle.stream.specs.Session.{session}
use Rattle.program.proofs.Parts.{Reached}
use Rattle.program.proofs.read_all.Given as goal

abbrev pub invariant-loop : goal.invariant-loop
invariant-loop g l =
    Reached (session 0 (units_in l.initial.list l.initial.row l.initial.grants l.initial.loans) l.initial.buf nothing_held)
    (session l.next.lines (units_in l.list l.row l.grants l.loans) l.buf l.next.held)
