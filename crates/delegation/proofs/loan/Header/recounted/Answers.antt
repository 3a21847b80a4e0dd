use mathlib.Core.Path.{refl}
use Rattle.delegation.specs.Loans.{recounted}
use Rattle.delegation.proofs.loan.Header.recounted.Goals as goal

pub returns : goal.returns
unfolding recounted
returns c = refl
