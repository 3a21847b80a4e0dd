use Rattle.delegation.specs.Loans.{word_of}
use Rattle.delegation.proofs.loan.word.Goals as goal

pub returns : goal.returns
unfolding word_of
returns c =
    rw (c.number-6.ensures, c.number-5.ensures, c.number-4.ensures, c.number-3.ensures, c.number-2.ensures, c.number.ensures)
