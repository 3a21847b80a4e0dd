use Rattle.bits.proofs.Bits.{machine_has}
use Rattle.bits.proofs.word.Word.has.Goals as goal

pub returns : goal.returns
returns g c = rw (c.widen.ensures.0, c.WIDTH.ensures) (machine_has _ _)
