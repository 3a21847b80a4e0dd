-- The loans in use are the words after the header, as many as it counts, so what `carrying` picks of them at the present shift is what is
-- picked of the image. Item and right are within their limits: a key that cuts each to its width is theirs.
use borrow.Author.Rules.{rules}
use native.Mathlib.Omega.{arith}
use mathlib.Core.Path.{◌≡◌, ap, ◌∙◌}
use Prim.Native.Nat.{ℕ, ◌+◌, ◌-◌, ◌*◌, ◌%◌}
use lib.ListN.{take, drop, length-drop}
use lib.Seq.{length-take-le}
use Rattle.bits.specs.Sets.{keep}
use Rattle.delegation.specs.declared.loan.Header.{Header}
use Rattle.delegation.specs.Loans.{rising, count_of, shift_in, used}
use Rattle.delegation.specs.Picking.{picks, picked}
use Rattle.picking.proofs.pick.Goals as goal

pub carrying-requires : goal.carrying-requires
unfolding used
carrying-requires c =
    let m : c.from-end.result + 1 - 1 ≡ count_of c.args.loans.now =
    omega (arith, c.from-end.ensures ∙ ap (λ (h : Header). h.count) c.of-header.ensures) in (
      search rules,
      ap (λ (k : ℕ). rising (take k (drop 1 c.args.loans.now))) m ∙ c.requires.rises,
      omega (arith, c.present-shift.ensures),
    )

pub returns : goal.returns
unfolding used picked
returns c =
    let m : c.from-end.result + 1 - 1 ≡ count_of c.args.loans.now =
    omega (arith, c.from-end.ensures ∙ ap (λ (h : Header). h.count) c.of-header.ensures) in
    let now : c.present-shift.result.0 ≡ shift_in c.args.loans.now =
    omega (arith, c.present-shift.ensures ∙ ap (λ (h : Header). h.shift % 256) c.of-header.ensures, c.requires.shift) in
    let key : c.key-key.result ≡ 8 * c.args.on.0 + c.args.right.0 =
    omega (arith, c.key-key.ensures, c.requires.item, c.requires.rights) in (
      omega (
        arith,
        c.carrying.ensures.0,
        length-take-le (c.from-end.result + 1 - 1) (drop 1 c.args.loans.now) (simp length-drop (omega arith)),
      ),
      c.carrying.ensures.1 ∙ (λ j. keep (picks (now j) (key j)) (take (m j) (drop 1 c.args.loans.now))),
    )
