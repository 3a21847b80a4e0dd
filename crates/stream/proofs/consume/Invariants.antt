-- Takes the chunk piece after piece: after each, the pieces done and what the definition takes of the rest make up what it takes
-- (`Going`), so that the loop stops where the definition does.
use Rattle.reader.specs.Replies.{units_in}
use Rattle.stream.specs.Session.{session}
use Rattle.stream.proofs.Session.{Going}
use lib.ListN.{length}
use Rattle.stream.proofs.consume.Given as goal

abbrev pub invariant-loop-list : goal.invariant-loop-list
invariant-loop-list l =
    Going (session l.initial.next.lines (units_in l.initial.list l.initial.row l.initial.grants l.initial.loans) l.initial.buf l.initial.next.held)
    (session l.next.lines (units_in l.list l.row l.grants l.loans) l.buf l.next.held) l.chunk l.initial.out l.out l.rest l.at

abbrev pub decreases-loop-list : goal.decreases-loop-list
decreases-loop-list l = length l.rest
