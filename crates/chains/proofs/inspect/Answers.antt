-- A wrong length is number 1 (`wrong_length`); else numbers 1 and 2 are those of the images, which the arrays are.
use mathlib.Core.Path.{subst}
use Rattle.std.specs.Prelude.{Err}
use Rattle.model.specs.declared.Refusal.TheVariants as is
use Rattle.delegation.specs.Images.{images}
use Rattle.delegation.specs.ChainUnit.{ChainInspects}
use Rattle.chains.proofs.Judging.{wrong_length, inspected}
use Rattle.chains.proofs.inspect.Goals as goal

pub returns-in_default : goal.returns-in_default
returns-in_default c =
    let s = images c.args.grants.now c.args.loans.now in
    inspected s (Err is.WrongLength) (wrong_length s _ (λ g t r. c.in_default.ensures.cases g))

pub returns-in_default-as_array : goal.returns-in_default-as_array
returns-in_default-as_array c =
    let s = images c.args.grants.now c.args.loans.now in
    inspected s (Err is.WrongLength) (wrong_length s _ (λ g t r. c.in_default-as_array.ensures.cases t))

pub returns : goal.returns
returns c =
    subst (λ s. ChainInspects s c.order.result s) (λ j. images (c.in-Some.ensures.cases.same j) (c.in-Some-as_array.ensures.cases.same j))
    (inspected _ _ c.order.ensures)
