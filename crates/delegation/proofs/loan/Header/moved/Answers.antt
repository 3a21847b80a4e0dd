use Rattle.delegation.specs.Loans.{moved_to}
use Rattle.delegation.proofs.loan.Header.moved.Goals as goal

pub returns : goal.returns
unfolding moved_to
returns c = rw c.number.ensures
