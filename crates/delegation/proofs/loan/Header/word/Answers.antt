use mathlib.Core.Path.{refl}
use Rattle.delegation.specs.Loans.{header_word}
use Rattle.delegation.proofs.loan.Header.word.Goals as goal

pub returns : goal.returns
unfolding header_word
returns c = refl
