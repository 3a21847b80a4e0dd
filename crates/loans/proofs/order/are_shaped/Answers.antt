use Rattle.std.proofs.Common.{rules}
use Rattle.loans.specs.Words.{shaped}
use Rattle.delegation.proofs.Folds.{all_fold}
use Rattle.loans.proofs.order.are_shaped.Goals as goal

pub returns : goal.returns
returns c = all_fold shaped _ (λ b. b) _ _ _ _ _ c.fold.ensures.ran (search rules) (λ a x b f k. search rules)
