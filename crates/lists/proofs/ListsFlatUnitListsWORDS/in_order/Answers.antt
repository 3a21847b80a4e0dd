-- Lists are in order where bit 0 of word 0, the root item's, is set (`root-bit`) and each item's block names living items only: the
-- first test that fails says no (`order-no`), else the second decides (`order-yes`).
use mathlib.Core.Path.{refl, sym, ap, ◌∙◌}
use mathlib.Core.Bool.{not}
use Rattle.layouts.specs.Layouts.{lists}
use Rattle.layouts.proofs.Order.{order-no, order-yes}
use Rattle.lists.proofs.InOrder.{root-bit}
use Rattle.lists.proofs.ListsFlatUnitListsWORDS.in_order.Goals as goal

pub returns-else-has : goal.returns-else-has
unfolding lists
returns-else-has c = c.if-has.false ∙ order-no lists c.args.image.now 512 64 refl _ (c.has.ensures ∙ sym (root-bit _)) (ap not c.if-has.false)

pub returns-then-has : goal.returns-then-has
unfolding lists
returns-then-has c =
    order-yes lists c.args.image.now 512 64 refl _ (c.has.ensures ∙ sym (root-bit _)) _ (ap not c.if-has.true) c.items_ok.ensures
