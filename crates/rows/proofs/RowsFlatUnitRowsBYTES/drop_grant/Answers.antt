-- The bit taken out is that of the grant's place, since a place in rows is byte 8 + 64 * person + item, bit right (`rows-withdraw`).
use native.Mathlib.Omega.{arith}
use Rattle.rows.proofs.Bytes.{rows-withdraw}
use Rattle.rows.proofs.RowsFlatUnitRowsBYTES.drop_grant.Goals as goal

pub returns : goal.returns
returns c =
    cc (rows-withdraw c.args.image.now c.told-image
    (λ i h. omega (arith, c.fits-image i)) c.args.to.0 c.args.on.0
    c.args.right.0 c.requires.0 c.requires.1 c.requires.2)
