use Rattle.std.proofs.Common.{rules}
use mathlib.Core.Path.{◌∙◌, sym, ap}
use mathlib.Core.Bool.{not, not-not}
use Rattle.delegation.specs.Loans.{word_dated}
use Rattle.delegation.proofs.Folds.{all_fold}
use Rattle.loans.proofs.Folds.{any-none}
use Rattle.loans.proofs.shift.has_dated.Goals as goal

pub returns : goal.returns
returns c =
    sym (not-not c.fold.result) ∙ ap not (all_fold (λ w. not (word_dated w)) _ not _ _ _ _ _ c.fold.ensures.ran (c.iter.ensures.rest ∙ c.used.ensures) (λ a x b f k. search rules))
    ∙ any-none word_dated _
