use mathlib.Core.Path.{refl}
use Rattle.delegation.specs.Loans.{fresh_header}
use Rattle.delegation.proofs.loan.Header.fresh.Goals as goal

pub returns : goal.returns
unfolding fresh_header
returns c = refl
