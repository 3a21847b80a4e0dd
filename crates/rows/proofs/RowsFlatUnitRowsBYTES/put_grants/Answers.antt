-- A place in rows is byte 8 + 64 * person + item, bit right: the bytes of one item stand 64 apart, from byte 8 + item on
-- (`allow-set-each`).
use Prim.Native.Nat.{◌+◌, ◌%◌}
use native.Mathlib.Omega.{arith}
use mathlib.Core.Path.{◌∙◌}
use Rattle.layouts.specs.Layouts.{rows}
use Rattle.layouts.proofs.Layouts.{rows-laws}
use Rattle.layouts.proofs.SetEdits.{allow-set-each}
use Rattle.rows.proofs.RowsFlatUnitRowsBYTES.put_grants.Goals as goal

pub returns : goal.returns
unfolding rows
returns c =
    c.set_each.ensures
    ∙ rw (c.number-2.ensures, c.number.ensures, c.number-k.ensures)
    (allow-set-each rows rows-laws c.args.image.now c.told-image (λ i b. omega (arith, c.fits-image i))
    c.args.set.0 c.args.on.0 c.args.right.0 0 (8 + c.args.on.0) 64 (c.args.right.0 % 8) (omega arith) (λ p b. omega arith))
