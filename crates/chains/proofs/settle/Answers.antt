-- The table is asked about the facts of the images: a refusal leaves both and counts nothing (`counting_stops`); where there is none the
-- command is accepted (`accepted`), and it is applied and counts (`counting_goes`).
use mathlib.Core.Path.{sym, subst}
use Rattle.model.proofs.Answers.{passed-on}
use Rattle.model.specs.Answers.{Returns}
use Rattle.layouts.specs.Machine.{judged_in}
use Rattle.layouts.proofs.Ends.{counting_stops, counting_goes}
use Rattle.delegation.specs.ChainUnit.{chain_unit}
use Rattle.chains.proofs.Arms.{accepted}
use Rattle.model.specs.Commands.{raw_of}
use Rattle.delegation.specs.Images.{images}
use Rattle.chains.proofs.settle.Goals as goal

pub returns-in_err-answer : goal.returns-in_err-answer
returns-in_err-answer c =
    let s = images c.args.grants.now c.args.loans.now in
    subst (λ r. Returns (judged_in chain_unit s (raw_of c.args.t)) r s) (sym (passed-on _ _ c.from_residual.ensures (λ y i. i)))
    (counting_stops chain_unit s (raw_of c.args.t) _ c.facts.ensures _ c.in_err-answer.ensures)

pub apply-requires : goal.apply-requires
apply-requires c =
    accepted (images c.args.grants.now c.args.loans.now) (raw_of c.args.t) _ _ c.requires c.facts.ensures c.in_ok-answer.ensures

pub returns : goal.returns
returns c =
    counting_goes chain_unit (images c.args.grants.now c.args.loans.now) (raw_of c.args.t) _ c.facts.ensures _ _ _
    c.in_ok-answer.ensures c.apply.ensures.0 c.apply.ensures.1
