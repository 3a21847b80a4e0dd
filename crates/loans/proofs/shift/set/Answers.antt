-- A slice of another length stays; otherwise word 0 alone is written, with the header of the image at that shift (`shift-set`).
use borrow.Author.Tests.{eq-eqb}
use Rattle.loans.proofs.Parts.{shift-set}
use Rattle.loans.proofs.shift.set.Goals as goal

pub returns : goal.returns
returns c =
    rw (eq-eqb _ _ c.if-loans-ne-WORDS.false)
    (shift-set c.args.loans.now _ c.header_of-header.result _ _ c.if-loans-ne-WORDS.false c.header_of-header.ensures c.moved.ensures
    c.word.ensures)
