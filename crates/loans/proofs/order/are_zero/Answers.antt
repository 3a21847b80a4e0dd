use Rattle.std.proofs.Common.{rules}
use mathlib.Core.Path.{ap, ◌∙◌}
use mathlib.Core.Bool.{◌&&◌}
use lib.Dec.{eqb}
use Rattle.bits.proofs.Scan.{or-zero}
use Rattle.model.proofs.Invariant.{eqb_sym}
use Rattle.delegation.proofs.Folds.{all_fold}
use Rattle.loans.proofs.order.are_zero.Goals as goal

pub returns : goal.returns
returns c =
    all_fold (eqb 0) _ (λ n. eqb n 0) _ _ _ _ _ c.fold.ensures.ran (search rules)
    (λ a x b f k. (ap (λ n. eqb n 0) (search rules) ∙ or-zero a x.now ∙ ap (λ z. eqb a 0 && z) (eqb_sym x.now 0), search rules))
