use Rattle.model.specs.Journal.{carries}
use Rattle.delegation.proofs.loan.carries.Goals as goal

pub returns : goal.returns
unfolding carries
returns c = rw (c.number.ensures, c.number-2.ensures, c.number-3.ensures)
