-- A place is a bit of the person's number in its list, so all lists ORed have the bits of the subjects (`all_subjects`).
use native.Mathlib.Omega.{arith}
use Rattle.lists.proofs.Persons.{all_subjects}
use Rattle.lists.proofs.ListsFlatUnitListsWORDS.persons.Goals as goal

pub returns : goal.returns
returns c = all_subjects c.args.image.now _ c.told-image (λ i. omega (arith, c.fits-image i)) c.union.ensures
