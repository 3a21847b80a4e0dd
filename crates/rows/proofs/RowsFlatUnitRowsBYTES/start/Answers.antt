-- Its two bytes are written over bytes that are all 0, which makes the fresh image (`zeroed-all`, `fresh-written`).
use mathlib.Core.Path.{refl, ◌∙◌, ◌≡◌, ap}
use native.Mathlib.Omega.{arith}
use lib.ListN.{length, get_or}
use Rattle.layouts.specs.Layouts.{rows}
use Rattle.layouts.proofs.Layouts.{rows-laws}
use Rattle.layouts.proofs.Edits.{fresh-written}
use Rattle.bits.proofs.Zeros.{zeroed-all}
use Rattle.rows.proofs.RowsFlatUnitRowsBYTES.start.Goals as goal

pub returns : goal.returns
unfolding rows
returns c =
    let l : length c.clear_each.new.image ≡ 4104 = c.clear_each.auto.image ∙ c.told-image in
    fresh-written rows rows-laws 8 (λ z. omega arith) refl c.clear_each.new.image _ _ l
    (λ i. ap (λ s. get_or s i 0) c.clear_each.ensures ∙ zeroed-all c.args.image.now 4104 c.told-image i)
    c.fresh-start.ensures.0 c.fresh-start.ensures.1
