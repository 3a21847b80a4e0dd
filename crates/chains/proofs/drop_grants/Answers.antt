-- The grants by their own function, the loans by whether the person had a grant and has one (`both_end`): that is what the eight drops leave
-- of images in order (`withdrawn-once`).
use mathlib.Core.Path.{sym, ◌∙◌}
use Rattle.delegation.specs.Images.{images}
use Rattle.delegation.proofs.Dropped.{withdrawn-once}
use Rattle.chains.proofs.Ending.{within, both_end}
use Rattle.chains.proofs.drop_grants.Goals as goal

pub returns : goal.returns
returns c =
    let s = images c.args.grants.now c.args.loans.now in
    both_end s _ _ _ _ _ _ _ c.holds-had.ensures c.drop_grants.ensures c.end_loans.ensures
    ∙ sym (withdrawn-once s c.requires.0.loans.long c.requires.1 _ _ _ (within c.requires.0))
