-- The three words of the fresh image that are not 0, computed.
use mathlib.Core.Path.{refl}
use Rattle.bits.specs.Bits.{bit, with_bit}
use Rattle.ticketing.specs.Machine.{fresh_tickets}
use Rattle.ticketing.specs.Image.{words_of, image_of}
use Rattle.ticketing.specs.Unit.{fresh_image}
use Rattle.tickets.proofs.Tickets.fresh.Goals as goal

pub returns : goal.returns
unfolding fresh_image image_of fresh_tickets words_of with_bit bit
returns c = (refl, refl, refl)
