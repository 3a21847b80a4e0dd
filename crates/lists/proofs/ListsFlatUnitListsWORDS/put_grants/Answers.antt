-- A place in lists is word 1 + 8 * item + right, bit person, so the members' places are the bits of one word (`allow-set_word`).
use Prim.Native.Nat.{◌+◌, ◌*◌, ◌^◌, ◌<◌}
use native.Mathlib.Omega.{arith}
use mathlib.Core.Path.{refl}
use Rattle.layouts.specs.Layouts.{lists}
use Rattle.layouts.proofs.Layouts.{lists-laws}
use Rattle.layouts.proofs.SetEdits.{allow-set_word}
use Rattle.lists.proofs.ListsFlatUnitListsWORDS.put_grants.Goals as goal

pub returns : goal.returns
unfolding lists
returns c =
    let h : c.args.set.0 < 2 ^ 64 = omega (arith, c.number) in
    rw (c.place-at.ensures.0, c.number.ensures)
    (allow-set_word lists lists-laws c.args.image.now c.told-image (λ i b. omega (arith, c.fits-image i))
    c.args.set.0 c.args.on.0 c.args.right.0 0 (1 + (8 * c.args.on.0 + c.args.right.0)) refl (λ p b. omega arith) (omega arith) h)
