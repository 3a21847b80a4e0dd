-- A row has one byte for each item, and a mask hides it where the item lives and shows it whole where it is dead; so nothing of the
-- eight rows is shown exactly where they have rights on living items only (`items_pass`).
use native.Mathlib.Omega.{arith}
use Rattle.rows.proofs.Scans.{items_pass}
use Rattle.rows.proofs.scan.items_live.Goals as goal

pub returns : goal.returns
returns c =
    items_pass c.args.image.now (λ i. omega (arith, c.fits-image i)) c.args.k c.args.masks.now _ c.requires.1 c.hides.ensures
