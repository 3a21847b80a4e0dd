-- A wrong length is number 1 (`wrong_length`). In images of their lengths, what numbers 1 to 3 admit decides (`counting_admitted`): a
-- refusal has its number and changes nothing; past them both images are in order, the arguments are within their limits, and what the table and
-- the command make of it is the answer.
use mathlib.Core.Path.{refl, sym, subst}
use Rattle.model.proofs.Answers.{passed-on}
use Rattle.std.specs.Prelude.{Ok, Err}
use Rattle.model.specs.declared.Refusal.TheVariants as is
use Rattle.layouts.specs.Machine.{RanCounting}
use Rattle.layouts.proofs.Admission.{counting_admitted}
use Rattle.delegation.specs.ChainUnit.{chain_unit}
use Rattle.delegation.specs.Images.{images}
use Rattle.chains.proofs.Judging.{wrong_length, ready}
use Rattle.chains.proofs.offer.Goals as goal

pub returns-in_default : goal.returns-in_default
returns-in_default c =
    let s = images c.args.grants.now c.args.loans.now in
    counting_admitted chain_unit s c.args.c (Err is.WrongLength) (wrong_length s _ (λ g t r. c.in_default.ensures.cases g)) (Err _) refl

pub returns-in_default-as_mut_array : goal.returns-in_default-as_mut_array
returns-in_default-as_mut_array c =
    let s = images c.args.grants.now c.args.loans.now in
    subst (λ g. RanCounting chain_unit s c.args.c (Err is.WrongLength) (images g c.args.loans.now)) (sym c.in-Some.ensures.cases.same)
    (counting_admitted chain_unit s c.args.c (Err is.WrongLength)
    (wrong_length s _ (λ g t r. c.in_default-as_mut_array.ensures.cases t)) (Err _) refl)

pub settle-requires : goal.settle-requires
settle-requires c =
    ready (images c.in-Some.grants.now c.in-Some-as_mut_array.loans.now) c.args.c c.order.result c.order.ensures _ c.in_ok-t.ensures

pub returns-in_err-t : goal.returns-in_err-t
returns-in_err-t c =
    let s = images c.in-Some.grants.now c.in-Some-as_mut_array.loans.now in
    subst (λ old. RanCounting chain_unit old c.args.c c.from_residual.result s)
    (λ j. images (c.in-Some.ensures.cases.same j) (c.in-Some-as_mut_array.ensures.cases.same j))
    (subst (λ r. RanCounting chain_unit s c.args.c r s) (sym (passed-on _ _ c.from_residual.ensures (λ y i. i)))
    (counting_admitted chain_unit s c.args.c c.order.result c.order.ensures (Err _) c.in_err-t.ensures))

pub returns : goal.returns
returns c =
    subst (λ old. RanCounting chain_unit old c.args.c c.settle.result (images c.settle.new.grants c.settle.new.loans))
    (λ j. images (c.in-Some.ensures.cases.same j) (c.in-Some-as_mut_array.ensures.cases.same j))
    ((counting_admitted chain_unit _ c.args.c c.order.result c.order.ensures (Ok _) c.in_ok-t.ensures).2 _ _ c.settle.ensures)
