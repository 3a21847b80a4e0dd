-- The places that name the item are those of its own row of 64 bytes, and its byte in each row: both set to 0, with its bit taken out
-- of the live set, are the image without it (`rows-delete`).
use native.Mathlib.Omega.{arith}
use Rattle.rows.proofs.Bytes.{rows-delete}
use Rattle.rows.proofs.RowsFlatUnitRowsBYTES.drop_item.Goals as goal

pub returns : goal.returns
returns c =
    rows-delete c.args.image.now c.told-image
    (λ i h. omega (arith, c.fits-image i)) c.args.on.0 c.number-k.result _ _ _ c.requires c.number-k.ensures c.remove.ensures c.clear_each.ensures c.clear_each-2.ensures
