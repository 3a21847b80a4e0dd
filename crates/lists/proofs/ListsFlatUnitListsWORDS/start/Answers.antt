-- Its two words are written over words that are all 0, which makes the fresh image (`swept-zero`, `fresh-written`).
use mathlib.Core.Path.{refl, ◌∙◌}
use native.Mathlib.Omega.{arith}
use Rattle.layouts.specs.Layouts.{lists}
use Rattle.bits.proofs.Sweep.{swept-zero, zeroed}
use Rattle.layouts.proofs.Layouts.{lists-laws}
use Rattle.layouts.proofs.Edits.{fresh-written}
use Rattle.lists.proofs.ListsFlatUnitListsWORDS.start.Goals as goal

pub returns : goal.returns
unfolding lists
returns c =
    let zero = zeroed c.args.image.now c.clear.new.words c.clear.ensures in
    fresh-written lists lists-laws 1 (λ z. omega arith) refl c.clear.new.words _ _ (zero.long ∙ c.told-image)
    (swept-zero c.args.image.now c.clear.new.words zero) c.fresh-start.ensures.0 c.fresh-start.ensures.1
