-- The bit put in is that of the grant's place, since a place in rows is byte 8 + 64 * person + item, bit right (`rows-allow`).
use native.Mathlib.Omega.{arith}
use Rattle.rows.proofs.Bytes.{rows-allow}
use Rattle.rows.proofs.RowsFlatUnitRowsBYTES.put_grant.Goals as goal

pub returns : goal.returns
returns c =
    cc (rows-allow c.args.image.now c.told-image
    (λ i h. omega (arith, c.fits-image i)) c.args.to.0 c.args.on.0
    c.args.right.0 c.requires.0 c.requires.1 c.requires.2)
