-- The rounds serve for this person as all eight do (`Searched`). The greatest entry then says what was found (`found_is`), and the chain is
-- empty where it is 0 (`chain-no`), else the one traced (`chain-yes`).
use mathlib.Core.Path.{ap, ◌∙◌}
use Rattle.model.specs.Answers.{found_said}
use Rattle.search.proofs.Outcome.{searched, found_is, chain-no, chain-yes}
use Rattle.search.proofs.by_rounds.Goals as goal
use Rattle.search.proofs.by_rounds.Goals.{then-e-eq0, else-e-eq0}

pub said-requires : goal.said-requires
said-requires c =
    let s = searched c.args.grants.now c.args.loans.now c.args.who.0 c.grant_round-first.result c.rounds_of.new.rounds c.best_of-e.result.value
    c.best_of-e.result.at c.requires.1 c.grant_round-first.ensures c.rounds_of.ensures c.best_of-e.ensures.0 c.best_of-e.ensures.1 in
    (s.height_in, c.best_of-e.ensures.2)

pub returns : goal.returns
returns c =
    let s = searched c.args.grants.now c.args.loans.now c.args.who.0 c.grant_round-first.result c.rounds_of.new.rounds c.best_of-e.result.value
    c.best_of-e.result.at c.requires.1 c.grant_round-first.ensures c.rounds_of.ensures c.best_of-e.ensures.0 c.best_of-e.ensures.1 in (
      c.said.ensures ∙ ap found_said (found_is s),
      elim c.if-e-eq0.branch [
        | then-e-eq0 w ↦ w.chain-is ∙ w.clear.ensures ∙ chain-no s w.if-e-eq0.true
        | else-e-eq0 w ↦ w.chain-is ∙ w.write_chain.ensures ∙ chain-yes s w.if-e-eq0.false
      ],
    )
