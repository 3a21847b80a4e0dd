-- The chunk is taken part after part: the pieces done are its first bytes (`Through`), whether all were taken or a write failed.
use Rattle.reader.specs.Replies.{units_in}
use Rattle.stream.specs.Session.{session}
use Rattle.program.proofs.Parts.{Through}
use lib.ListN.{length}
use Rattle.program.proofs.answer.Given as goal

abbrev pub invariant-loop-rest : goal.invariant-loop-rest
invariant-loop-rest g l =
    Through (session l.initial.next.lines (units_in l.initial.list l.initial.row l.initial.grants l.initial.loans) l.initial.buf l.initial.next.held)
    (session l.next.lines (units_in l.list l.row l.grants l.loans) l.buf l.next.held) l.chunk l.rest

abbrev pub decreases-loop-rest : goal.decreases-loop-rest
decreases-loop-rest g l = length l.rest
