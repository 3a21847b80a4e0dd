-- A wrong length is number 1 (`wrong_length`). In lent buffers of their lengths, a refusal by numbers 1 to 3 has its number
-- (`chain_check_refused`); past them the images have the shape that an answer asks for (`in_shape`), and what that finds is the check's
-- (`chain_check_says`).
use borrow.Author.Rules.{rules}
use mathlib.Core.Path.{refl, sym, ap, subst, ◌∙◌}
use borrow.Author.Tests.{eq-eqb, eqb-true}
use lib.ListN.{length}
use Rattle.model.proofs.Answers.{passed-on}
use Rattle.std.specs.Prelude.{Ok, Err}
use Rattle.model.specs.declared.Refusal.TheVariants as is
use Rattle.delegation.specs.Images.{images}
use Rattle.delegation.specs.ChainUnit.{chain_guarded, ChainChecks}
use Rattle.delegation.proofs.ChainEnds.{chain_check_refused, chain_check_says}
use Rattle.chains.proofs.Judging.{wrong_length, in_shape}
use Rattle.chains.proofs.check.Goals as goal

pub returns-in_default : goal.returns-in_default
returns-in_default c =
    let s = images c.args.grants.now c.args.loans.now in
    chain_check_refused s c.args.chain.now c.args.who c.args.on c.args.right (Err is.WrongLength)
    (wrong_length s _ (λ g t r. c.in_default.ensures.cases g)) is.WrongLength refl

pub returns-in_default-as_array : goal.returns-in_default-as_array
returns-in_default-as_array c =
    let s = images c.args.grants.now c.args.loans.now in
    chain_check_refused s c.args.chain.now c.args.who c.args.on c.args.right (Err is.WrongLength)
    (wrong_length s _ (λ g t r. c.in_default-as_array.ensures.cases t)) is.WrongLength refl

pub returns-in_default-as_mut_array : goal.returns-in_default-as_mut_array
returns-in_default-as_mut_array c =
    let s = images c.args.grants.now c.args.loans.now in
    chain_check_refused s c.args.chain.now c.args.who c.args.on c.args.right (Err is.WrongLength)
    (wrong_length s _ (λ g t r. c.in_default-as_mut_array.ensures.cases (eqb-true _ _ r))) is.WrongLength refl

pub answer-requires : goal.answer-requires
answer-requires c =
    in_shape (images c.in-Some.grants.now c.in-Some-as_array.loans.now) c.args.who c.args.on c.args.right c.order.result c.order.ensures _
    c.in_ok-q.ensures

pub returns-in_err-q : goal.returns-in_err-q
returns-in_err-q c =
    let s = images c.in-Some.grants.now c.in-Some-as_array.loans.now in
    let b = c.in-Some-as_mut_array.chain.now in
    let guarded = c.order.ensures ∙ ap (λ r. chain_guarded s r 0) (sym (eq-eqb (length b) 8 (search rules))) in
    subst (λ t. ChainChecks t c.args.chain.now c.args.who c.args.on c.args.right c.from_residual.result b t)
    (λ j. images (c.in-Some.ensures.cases.same j) (c.in-Some-as_array.ensures.cases.same j))
    (subst (λ old. ChainChecks s old c.args.who c.args.on c.args.right c.from_residual.result b s) c.in-Some-as_mut_array.ensures.cases.same
    (subst (λ r. ChainChecks s b c.args.who c.args.on c.args.right r b s) (sym (passed-on _ _ c.from_residual.ensures (λ y i. i)))
    (chain_check_refused s b c.args.who c.args.on c.args.right c.order.result guarded _ c.in_err-q.ensures)))

pub returns : goal.returns
returns c =
    let s = images c.in-Some.grants.now c.in-Some-as_array.loans.now in
    let b = c.in-Some-as_mut_array.chain.now in
    let guarded = c.order.ensures ∙ ap (λ r. chain_guarded s r 0) (sym (eq-eqb (length b) 8 (search rules))) in
    subst (λ t. ChainChecks t c.args.chain.now c.args.who c.args.on c.args.right (Ok c.answer.result) c.answer.new.chain t)
    (λ j. images (c.in-Some.ensures.cases.same j) (c.in-Some-as_array.ensures.cases.same j))
    (subst (λ old. ChainChecks s old c.args.who c.args.on c.args.right (Ok c.answer.result) c.answer.new.chain s)
    c.in-Some-as_mut_array.ensures.cases.same
    (chain_check_says s b c.args.who c.args.on c.args.right c.order.result guarded _ c.in_ok-q.ensures _ _
    c.answer.ensures.0 c.answer.ensures.1))
