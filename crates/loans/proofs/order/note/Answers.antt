-- A mask is 0 where its item lives, so the three sums are 0 exactly where they were and all three items live (`note_zero`).
use mathlib.Core.Path.{◌∙◌}
use Rattle.loans.proofs.Loops.{note_zero}
use Rattle.loans.proofs.order.note.Goals as goal

pub returns : goal.returns
returns c =
    note_zero c.args.masks.now c.args.dead.lender c.args.dead.item c.args.dead.borrower c.number-p.result c.number-i.result
    c.number-q.result
    ∙ rw (c.number-p.ensures, c.number-i.ensures, c.number-q.ensures)
    (rw (c.lender.ensures, c.item.ensures, c.borrower.ensures))
