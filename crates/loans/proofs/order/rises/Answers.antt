use Rattle.std.proofs.Common.{rules}
use Rattle.loans.proofs.Folds.{rising_fold}
use Rattle.loans.proofs.order.rises.Goals as goal

pub returns : goal.returns
returns c = rising_fold _ _ _ _ _ c.fold.ensures.ran (search rules) (search rules) (λ a x b f k. search rules)
