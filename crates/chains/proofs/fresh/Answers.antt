-- Both lengths are seen before anything is written, so a refusal leaves both images (`fresh-grants`, `fresh-loans`); past them both
-- steps write, and leave fresh grants and no loan (`fresh_both`).
use Rattle.chains.proofs.Judging.{fresh-grants, fresh-loans, fresh_both}
use Rattle.chains.proofs.fresh.Goals as goal

pub returns-then-grants-ne-BYTES : goal.returns-then-grants-ne-BYTES
returns-then-grants-ne-BYTES c = fresh-grants c.args.grants.now c.args.loans.now c.if-grants-ne-BYTES.true

pub returns-then-loans-ne-WORDS : goal.returns-then-loans-ne-WORDS
returns-then-loans-ne-WORDS c =
    fresh-loans c.args.grants.now c.args.loans.now
    c.if-grants-ne-BYTES.false c.if-loans-ne-WORDS.true

pub returns : goal.returns
returns c =
    fresh_both c.args.grants.now c.args.loans.now
    c.if-grants-ne-BYTES.false _ _
    c.if-loans-ne-WORDS.false
    c.fresh.ensures c.clear.ensures
