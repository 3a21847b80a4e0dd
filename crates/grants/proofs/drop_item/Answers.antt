-- The places that name the item are those of its own block of 512 bytes, and its byte in each row of 64: both set to 0, with its bit
-- taken out of the live set, are the image without it (`grants-delete`).
use native.Mathlib.Omega.{arith}
use Rattle.grants.proofs.Bytes.{grants-delete}
use Rattle.grants.proofs.drop_item.Goals as goal

pub returns : goal.returns
returns c =
    grants-delete c.args.grants.now c.requires.0
    (λ i h. omega (arith, c.slice_known-1.given i)) c.args.on.0 c.number-k.result _ _ _ c.requires.1 c.number-k.ensures c.remove.ensures c.clear_each.ensures c.clear_each-2.ensures
