-- The tests are those of the ticket that the words tell (`sound_code`).
use borrow.Author.Rules.{rules}
use Rattle.tickets.proofs.Fields.{sound_code}
use Rattle.tickets.proofs.is_sound.Goals as goal

pub returns : goal.returns
returns c =
    sound_code c.args.w c.args.h c.args.live c.args.next (search rules) c.has.result c.has.ensures
