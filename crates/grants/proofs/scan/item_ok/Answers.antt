-- The masks of the item and of a person together hide a byte where both live, and show it whole where either is dead; so nothing is
-- shown exactly where the block names living items only (`item_passes`).
use native.Mathlib.Omega.{arith}
use Rattle.grants.proofs.Blocks.{item_passes}
use Rattle.grants.proofs.scan.item_ok.Goals as goal

pub returns : goal.returns
returns c =
    item_passes c.args.grants.now c.args.on c.requires.1
    (λ i. omega (arith, c.shared_slice_known-1.given i)) _ c.args.masks.now c.requires.2 c.hides.ensures
