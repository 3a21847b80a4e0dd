-- The item's bit in word 0, and then an edit grant to its maker, are the image that a creation leaves (`create_is`).
use mathlib.Core.Path.{◌∙◌}
use Prim.Native.Nat.{◌%◌}
use native.Mathlib.Omega.{arith}
use Rattle.layouts.specs.Layouts.{lists}
use Rattle.layouts.proofs.Layouts.{lists-laws}
use Rattle.layouts.proofs.Edits.{create_is}
use Rattle.lists.proofs.ListsFlatUnitListsWORDS.put_item.Goals as goal

pub returns : goal.returns
unfolding lists
returns c =
    c.put_grant.ensures
    ∙ rw (c.edit.ensures, c.with.ensures, c.number.ensures)
    (create_is lists lists-laws c.args.image.now c.told-image c.args.by.0 c.args.on.0 0 (c.args.on.0 % 64) c.requires.1
    (omega arith) (omega arith))
