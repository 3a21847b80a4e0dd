use mathlib.Core.Path.{refl}
use Rattle.delegation.specs.Loans.{header_of}
use Rattle.delegation.proofs.loan.Header.read.Goals as goal

pub returns : goal.returns
unfolding header_of
returns c = refl
