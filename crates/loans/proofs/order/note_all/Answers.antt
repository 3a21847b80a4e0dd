use Rattle.std.proofs.Common.{rules}
use Rattle.loans.specs.Words.{unmasked, names_live, none_dead}
use Rattle.delegation.proofs.Folds.{all_fold}
use Rattle.loans.proofs.order.note_all.Goals as goal

pub returns : goal.returns
returns c = all_fold (names_live (unmasked c.args.masks.now)) _ none_dead _ _ _ _ _ c.fold.ensures.ran (search rules) (λ a x b f k. search rules)
