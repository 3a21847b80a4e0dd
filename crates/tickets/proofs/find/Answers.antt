use borrow.Author.Rules.{rules}
use Rattle.ticketing.specs.Machine.{is_number}
use Rattle.tickets.proofs.Places.{place_found}
use Rattle.tickets.proofs.find.Goals as goal

pub returns : goal.returns
returns c = place_found c.args.image.now c.told-image (is_number c.args.number) c.place_where.ensures (λ k b p. search rules)
