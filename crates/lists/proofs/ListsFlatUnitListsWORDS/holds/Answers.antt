-- The bit is that of the grant's place, since a place in lists is word 1 + 8 * item + right, bit person (`held_is`).
use mathlib.Core.Path.{ap₂, sym, ◌∙◌}
use Prim.Native.Nat.{◌%◌, ℕ, ◌+◌, ◌*◌}
use native.Mathlib.Omega.{arith}
use lib.ListN.{get_or}
use Rattle.bits.specs.Bits.{bit}
use Rattle.layouts.specs.Layouts.{lists}
use Rattle.layouts.proofs.Layouts.{lists-laws}
use Rattle.layouts.proofs.Edits.{held_is, lists-flat}
use Rattle.lists.proofs.ListsFlatUnitListsWORDS.holds.Goals as goal

pub returns : goal.returns
unfolding lists
returns c =
    c.has.ensures ∙ ap₂ (λ (x y : ℕ). bit (get_or c.args.image.now x 0) (y % 64)) c.place.ensures.0
    c.number.ensures
    ∙ sym (held_is lists lists-laws lists-flat c.args.image.now c.args.who.0 c.args.on.0 c.args.right.0 (1 + (8 * c.args.on.0 + c.args.right.0)) (c.args.who.0 % 64) (omega arith) (omega arith))
