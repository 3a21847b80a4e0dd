use mathlib.Core.Path.{◌∙◌}
use borrow.Author.Rules.{rules}
use Rattle.tickets.specs.Places.{held_for}
use Rattle.tickets.proofs.Places.{any_found}
use Rattle.tickets.proofs.holds_key.Goals as goal

pub returns : goal.returns
returns c =
    c.is_some.ensures
    ∙ any_found c.args.image.now c.told-image (held_for c.args.who.0 c.args.key) c.place_where.ensures (λ k b p. search rules)
