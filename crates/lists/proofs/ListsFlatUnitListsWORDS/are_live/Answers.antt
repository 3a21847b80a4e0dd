-- Nothing of the set is outside the live set (`machine_outside`), which is word 0: bit i of it says whether item i lives.
use Prim.Native.Nat.{◌^◌, ◌<◌}
use native.Mathlib.Omega.{arith}
use mathlib.Core.Bool.{not, ◌||◌}
use mathlib.Core.Path.{sym, ap, ◌∙◌}
use lib.ListN.{get_or}
use Rattle.bits.specs.Bits.{bit}
use Rattle.layouts.specs.Layouts.{lists}
use Rattle.bits.proofs.Bits.{within, machine_outside}
use Rattle.bits.proofs.Indexed.{below_ext}
use Rattle.bits.proofs.Marks.{cell_bit}
use Rattle.bits.proofs.Members.{all-members}
use Rattle.lists.proofs.ListsFlatUnitListsWORDS.are_live.Goals as goal

pub returns : goal.returns
unfolding lists within
returns c =
    let h : get_or c.args.image.now 0 0 < 2 ^ 64 = omega (arith, c.fits-image 0) in
    machine_outside 64 c.number.result (get_or c.args.image.now 0 0) h
    ∙ rw c.number.ensures
    (below_ext 64 _ _ (λ i b. ap (λ x. not (bit c.args.set.0 i) || x) (sym (cell_bit 64 (omega arith) c.args.image.now 0 i b i (omega arith))))
    ∙ sym (all-members 64 c.args.set.0 _))
