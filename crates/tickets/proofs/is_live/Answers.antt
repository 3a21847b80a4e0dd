-- Word 0 is the live set.
use borrow.Author.Rules.{rules}
use lib.ListN.{get_or}
use Rattle.bits.specs.Bits.{bit}
use Rattle.ticketing.specs.Image.{machine_of}
use Rattle.tickets.proofs.Fields.{of_item}
use Rattle.tickets.proofs.is_live.Goals as goal

pub returns : goal.returns
unfolding machine_of
returns c =
    of_item (bit (get_or c.args.image.now 0 0)) c.has.result _ _ c.has.ensures c.number.ensures (search rules)
