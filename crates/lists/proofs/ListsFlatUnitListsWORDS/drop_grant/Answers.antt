-- The bit taken out is that of the grant's place, since a place in lists is word 1 + 8 * item + right, bit person (`withdraw_is`); no
-- other place is about the same three.
use Prim.Native.Nat.{◌%◌, ◌+◌, ◌*◌}
use native.Mathlib.Omega.{arith}
use Rattle.layouts.specs.Layouts.{lists}
use Rattle.layouts.proofs.Layouts.{lists-laws}
use Rattle.layouts.proofs.Edits.{withdraw_is, lists-flat}
use Rattle.lists.proofs.ListsFlatUnitListsWORDS.drop_grant.Goals as goal

pub returns : goal.returns
unfolding lists
returns c =
    rw (c.without.ensures, c.place-at.ensures.0, c.number.ensures)
    (withdraw_is lists lists-laws c.args.image.now c.told-image
    (λ i h. omega (arith, c.fits-image i)) lists-flat c.args.to.0 c.args.on.0 c.args.right.0 (1 + (8 * c.args.on.0 + c.args.right.0)) (c.args.to.0 % 64)
    c.requires.0 c.requires.1 c.requires.2 (omega arith) (omega arith))
