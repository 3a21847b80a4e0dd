-- A buffer of a wrong length is found before any is written, so a refusal leaves all four (`start-refused`); past the four tests each
-- unit is made fresh (`start_done`), and none refuses (`never`).
use Rattle.layouts.specs.Layouts.{lists, rows}
use Rattle.reader.proofs.Start.{start-refused, start_done, never}
use Rattle.reader.proofs.fresh.Goals as goal

pub returns-then-list-ne-WORDS : goal.returns-then-list-ne-WORDS
returns-then-list-ne-WORDS c = start-refused _ (λ e. c.if-list-ne-WORDS.true e.0)

pub returns-then-row-ne-BYTES : goal.returns-then-row-ne-BYTES
returns-then-row-ne-BYTES c = start-refused _ (λ e. c.if-row-ne-BYTES.true e.1)

pub returns-then-grants-ne-BYTES : goal.returns-then-grants-ne-BYTES
returns-then-grants-ne-BYTES c = start-refused _ (λ e. c.if-grants-ne-BYTES.true e.2)

pub returns-then-loans-ne-WORDS : goal.returns-then-loans-ne-WORDS
returns-then-loans-ne-WORDS c = start-refused _ (λ e. c.if-loans-ne-WORDS.true e.3)

pub returns-in_err-freshen : goal.returns-in_err-freshen
unfolding lists
returns-in_err-freshen c = absurd (never lists _ _ _ c.if-list-ne-WORDS.false c.in_err-freshen.ensures)

pub returns-in_err-freshen-2 : goal.returns-in_err-freshen-2
unfolding rows
returns-in_err-freshen-2 c = absurd (never rows _ _ _ c.if-row-ne-BYTES.false c.in_err-freshen-2.ensures)

pub returns : goal.returns
returns c =
    start_done _ (c.if-list-ne-WORDS.false, c.if-row-ne-BYTES.false, c.if-grants-ne-BYTES.false, c.if-loans-ne-WORDS.false) _ _ _ _ _ _ _
    c.in_ok-freshen.ensures c.in_ok-freshen-2.ensures c.fresh.ensures
