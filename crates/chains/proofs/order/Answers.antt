-- The order of the grants, then that of the loans. The masks are those of the grants' live set, so the loans are judged by the items that
-- live there (`order-lent`, `order_done`).
use borrow.Author.Rules.{rules}
use mathlib.Core.Path.{sym, ◌∙◌}
use Rattle.chains.proofs.Judging.{order-lent, order_done}
use Rattle.chains.proofs.order.Goals as goal

pub returns-then-not-in_order-2 : goal.returns-then-not-in_order-2
returns-then-not-in_order-2 c =
    order-lent c.args.grants.now c.args.loans.now (search rules) (search rules) (sym c.in_order.ensures ∙ c.if-not-in_order.false) _
    c.masks-masks.ensures _ c.in_order-2.ensures c.if-not-in_order-2.true

pub returns : goal.returns
returns c =
    order_done c.args.grants.now c.args.loans.now (search rules) (search rules) (sym c.in_order.ensures ∙ c.if-not-in_order.false) _
    c.masks-masks.ensures _ c.in_order-2.ensures c.if-not-in_order-2.false
