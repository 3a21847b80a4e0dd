-- No loan is to the person exactly where each is to another (`all_fold`).
use Rattle.std.proofs.Common.{rules}
use mathlib.Core.Bool.{not}
use Rattle.delegation.proofs.Folds.{all_fold}
use Rattle.search.specs.Lending.{is_to_other}
use Rattle.search.proofs.any_to.Goals as goal

pub returns : goal.returns
returns c = all_fold (is_to_other c.args.q.0) _ not _ _ _ _ _ c.fold.ensures.ran (search rules) (λ a x b f k. search rules)
