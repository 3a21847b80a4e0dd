-- Where no ticket is, none is to change (`nothing-there`); where it is the item's or has no holder left, both words are 0 (`ends_there`); else
-- the holders lack the item (`stays_there`).
use mathlib.Core.Path.{sym, ◌∙◌}
use Rattle.tickets.proofs.Fields.{both_zero}
use Rattle.tickets.proofs.Places.{nothing-there}
use Rattle.tickets.proofs.drop_at.Goals as goal

pub returns-then-w-before-eq0 : goal.returns-then-w-before-eq0
returns-then-w-before-eq0 c =
    let z = both_zero c.record_at-w.result c.holders_at-before.result c.if-w-before-eq0.true in
    nothing-there c.args.image.now c.args.k c.args.on.0 (sym c.record_at-w.ensures.0 ∙ z.0) (sym c.holders_at-before.ensures.0 ∙ z.1)
