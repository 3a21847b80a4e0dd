-- A malformed line changes nothing (`malformed_replies`).
use Rattle.reader.proofs.Replies.{malformed_replies}
use Rattle.reader.proofs.run.Goals as goal

pub returns-in-None : goal.returns-in-None
returns-in-None c = rw c.in-None.is (malformed_replies _ _ c.malformed-reply.ensures)
