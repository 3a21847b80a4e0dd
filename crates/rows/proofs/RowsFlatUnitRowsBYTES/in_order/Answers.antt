-- Rows are in order where bit 0 of byte 0, the root item's, is set (`root-bit`) and each row names living items only: the first test
-- that fails says no (`order-no`), else the second decides (`order-yes`).
use mathlib.Core.Path.{refl, sym, ap, ◌∙◌}
use mathlib.Core.Bool.{not}
use Rattle.layouts.specs.Layouts.{rows}
use Rattle.layouts.proofs.Order.{order-no, order-yes}
use Rattle.rows.proofs.Bytes.{root-bit}
use Rattle.rows.proofs.RowsFlatUnitRowsBYTES.in_order.Goals as goal

pub returns-else-has : goal.returns-else-has
unfolding rows
returns-else-has c =
    c.if-has.false ∙ order-no rows c.args.image.now 512 64 refl _ (c.has.ensures ∙ sym (root-bit _)) (ap not c.if-has.false)

pub returns-then-has : goal.returns-then-has
unfolding rows
returns-then-has c =
    order-yes rows c.args.image.now 512 64 refl _ (c.has.ensures ∙ sym (root-bit _)) _ (ap not c.if-has.true) c.rows_ok.ensures
