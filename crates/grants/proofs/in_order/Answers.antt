-- An image is in order where its first bit, item 0's, is set and each of its 64 blocks names living items only (`order_is`).
use mathlib.Core.Path.{sym, ◌∙◌}
use Rattle.grants.proofs.Blocks.{order_is}
use Rattle.grants.proofs.in_order.Goals as goal

pub returns-then-has : goal.returns-then-has
returns-then-has c = c.items_ok.ensures ∙ sym (order_is c.args.grants.now ∙ rw (sym c.has.ensures ∙ c.if-has.true))

pub returns-else-has : goal.returns-else-has
returns-else-has c = c.if-has.false ∙ sym (order_is c.args.grants.now ∙ rw (sym c.has.ensures ∙ c.if-has.false))
