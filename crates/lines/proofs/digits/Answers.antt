-- The first byte that is no digit ends the digits (`digits-take`).
use Rattle.lines.proofs.Line.{digits-take}
use Rattle.lines.proofs.digits.Goals as goal

pub returns : goal.returns
returns c = rw (c.unwrap_or-n.ensures, c.digits_end.ensures) (digits-take c.args.s.now)
