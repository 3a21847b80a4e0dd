-- Where the item lives its lists may have living persons only: nothing of them ORed is outside the live set (`item_passes`). Where it
-- is dead they have nobody: the words ORed are 0 (`item_empty`).
use Prim.Native.Nat.{◌^◌, ◌<◌}
use lib.ListN.{get_or}
use native.Mathlib.Omega.{arith}
use Rattle.lists.proofs.InOrder.{item_passes, item_empty}
use Rattle.bits.proofs.Bits.{machine_outside}
use Rattle.lists.proofs.misplaced.Goals as goal

pub returns-then-has : goal.returns-then-has
returns-then-has c =
    let h : get_or c.args.image.now 0 0 < 2 ^ 64 = omega
    (arith, c.fits-image 0) in
    item_passes c.args.image.now c.args.on c.requires _ _ c.told-image c.union-all.ensures
    c.has.ensures _ c.if-has.true (machine_outside 64 _ (get_or c.args.image.now 0 0) h)

pub returns-else-has : goal.returns-else-has
returns-else-has c =
    item_empty c.args.image.now c.args.on c.requires _ _ c.told-image c.union-all.ensures
    c.has.ensures
    (λ i. omega (arith, c.fits-image i)) c.if-has.false
