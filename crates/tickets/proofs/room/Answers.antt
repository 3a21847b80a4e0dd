-- No place is free, no number is left, or both are there.
use mathlib.Core.Path.{refl}
use Rattle.model.specs.declared.Refusal.TheVariants as is
use Rattle.tickets.proofs.Commands.{full_room, spent_room}
use Rattle.tickets.proofs.room.Goals as goal

pub returns-in_default : goal.returns-in_default
returns-in_default c = full_room c.args.image.now c.told-image is.TicketsFull refl c.in_default.ensures

pub returns-then-image-eq-LAST : goal.returns-then-image-eq-LAST
returns-then-image-eq-LAST c = spent_room c.args.image.now c.told-image c.in-Some.ensures is.NumbersSpent refl c.if-image-eq-LAST.true
