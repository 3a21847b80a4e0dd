-- The places that name the item are its bit in every word and its own eight words: with both cleared, the live set's bit among them,
-- the image is the one without it (`removed`).
use native.Mathlib.Omega.{arith}
use Rattle.bits.proofs.Sweep.{is_swept, wiped_part, zeroed}
use Rattle.lists.proofs.Removal.{removed}
use Rattle.lists.proofs.ListsFlatUnitListsWORDS.drop_item.Goals as goal

pub returns : goal.returns
returns c =
    removed c.args.image.now c.drop_name.new.image _ c.args.on.0 c.place-at.result c.told-image c.requires
    (omega (arith, c.place-at.ensures.0, c.edit.ensures)) (is_swept _ _ _ c.drop_name.ensures)
    (wiped_part c.place-at.result 8 c.drop_name.new.image c.clear.new.words (omega arith) (zeroed _ _ c.clear.ensures))
    (λ i h. omega (arith, c.fits-image i))
