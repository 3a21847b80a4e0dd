-- Where no loan is to the person the own grant is all there is (`own_found`, `own_chain_lem`); else the rounds tell.
use mathlib.Core.Path.{sym, ap, ◌∙◌}
use mathlib.Core.Bool.{not}
use Rattle.search.specs.Lending.{is_to_other}
use Rattle.search.proofs.Lending.{all-below}
use Rattle.search.proofs.Alone.{own_found, own_chain_lem}
use Rattle.search.proofs.best.Goals as goal

pub returns-then-not-any_to : goal.returns-then-not-any_to
returns-then-not-any_to c =
    let e = sym (all-below (is_to_other c.args.who.0) c.args.loans.now) ∙ sym c.any_to.ensures ∙ ap not c.if-not-any_to.true in (
      c.own.ensures.0 ∙ own_found c.args.grants.now c.args.loans.now c.args.who.0 c.requires.1 e,
      c.own.ensures.1 ∙ own_chain_lem c.args.grants.now c.args.loans.now c.args.who.0 c.requires.1 e,
    )
