-- By the test of the borrower: a loan to `q` passes on what it gains from its lender's entry (`arrive_here`), another nothing
-- (`arrive_else`).
use Rattle.delegation.specs.Search.{gain}
use Rattle.delegation.proofs.Search.{arrive_here, arrive_else}
use borrow.Author.Tests.{eqb-true, eqb-false}
use mathlib.Core.Path.{sym, ◌∙◌}
use lib.ListN.{get_or}
use Rattle.search.proofs.arrive_of.Goals as goal

pub returns-then-is_to : goal.returns-then-is_to
returns-then-is_to c =
    let p = c.number-p.ensures ∙ c.lender.ensures in
    c.gain_of.ensures ∙ (λ j. gain (get_or c.args.round.now (p j) 0) c.args.w)
    ∙ sym (arrive_here _ _ _ (eqb-true _ _ (sym c.is_to.ensures ∙ c.if-is_to.true)))

pub returns-else-is_to : goal.returns-else-is_to
returns-else-is_to c = sym (arrive_else _ _ _ (eqb-false _ _ (sym c.is_to.ensures ∙ c.if-is_to.false)))
