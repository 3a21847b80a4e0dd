-- Three bits of the live set, the bits of the set's members there, the edit right of the one who commands, what the shift of the loans image says, and whether the loans are
-- full for the loan's word: field by field what the table asks (`facts-are`). The shift of an image in order is within its limit.
use Rattle.model.specs.Commands.{raw_of}
use Rattle.layouts.specs.Layouts.{grant_bytes}
use Rattle.delegation.specs.Images.{images}
use Rattle.chains.proofs.Judging.{facts-are, counted}
use Rattle.chains.proofs.facts.Goals as goal

pub returns : goal.returns
unfolding grant_bytes
returns c =
    facts-are (images c.args.grants.now c.args.loans.now) (raw_of c.args.t) _ _ _ _ _ _ _ _ _ _
    c.edit.ensures c.loan_word.ensures
    c.is_live.ensures c.is_live-2.ensures c.is_live-3.ensures
    c.are_live.ensures c.holds.ensures
    c.goes_back.ensures c.is_past.ensures (counted _ c.requires.ordered).0 c.is_full.ensures
