-- In each arm the verb is the one that the sum's rest tells (`only_by`).
use native.Mathlib.Omega.{arith}
use Prim.Native.Nat.{◌+◌, ◌%◌}
use mathlib.Core.Path.{refl, ◌∙◌}
use borrow.Author.Tests.{ne_eqb}
use Rattle.lines.proofs.Verbs.{only_by}
use Rattle.lines.proofs.Action.of.Goals as goal

pub returns-in-12 : goal.returns-in-12
returns-in-12 c = only_by _ 1 (c.from.ensures ∙ c.byte.ensures) (c.from-2.ensures ∙ c.byte-2.ensures) c.in-12.is refl

pub returns-in-14 : goal.returns-in-14
returns-in-14 c = only_by _ 2 (c.from.ensures ∙ c.byte.ensures) (c.from-2.ensures ∙ c.byte-2.ensures) c.in-14.is refl

pub returns-in-17 : goal.returns-in-17
returns-in-17 c = only_by _ 3 (c.from.ensures ∙ c.byte.ensures) (c.from-2.ensures ∙ c.byte-2.ensures) c.in-17.is refl

pub returns-in-21 : goal.returns-in-21
returns-in-21 c = only_by _ 4 (c.from.ensures ∙ c.byte.ensures) (c.from-2.ensures ∙ c.byte-2.ensures) c.in-21.is refl

pub returns-in-40 : goal.returns-in-40
returns-in-40 c = only_by _ 5 (c.from.ensures ∙ c.byte.ensures) (c.from-2.ensures ∙ c.byte-2.ensures) c.in-40.is refl

pub returns-in-39 : goal.returns-in-39
returns-in-39 c = only_by _ 6 (c.from.ensures ∙ c.byte.ensures) (c.from-2.ensures ∙ c.byte-2.ensures) c.in-39.is refl

pub returns-in-3 : goal.returns-in-3
returns-in-3 c = only_by _ 7 (c.from.ensures ∙ c.byte.ensures) (c.from-2.ensures ∙ c.byte-2.ensures) c.in-3.is refl

pub returns-in-11 : goal.returns-in-11
returns-in-11 c = only_by _ 8 (c.from.ensures ∙ c.byte.ensures) (c.from-2.ensures ∙ c.byte-2.ensures) c.in-11.is refl

pub returns-in-7 : goal.returns-in-7
returns-in-7 c = only_by _ 9 (c.from.ensures ∙ c.byte.ensures) (c.from-2.ensures ∙ c.byte-2.ensures) c.in-7.is refl

pub returns-in-28 : goal.returns-in-28
returns-in-28 c = only_by _ 10 (c.from.ensures ∙ c.byte.ensures) (c.from-2.ensures ∙ c.byte-2.ensures) c.in-28.is refl

pub returns-in_default : goal.returns-in_default
returns-in_default c =
    only_by _ 0 (c.from.ensures ∙ c.byte.ensures) (c.from-2.ensures ∙ c.byte-2.ensures) refl
    (rw (ne_eqb ((c.from.result + c.from-2.result) % 64) 12 (λ e. omega arith), ne_eqb ((c.from.result + c.from-2.result) % 64) 14 (λ e. omega arith), ne_eqb ((c.from.result + c.from-2.result) % 64) 17 (λ e. omega arith), ne_eqb ((c.from.result + c.from-2.result) % 64) 21 (λ e. omega arith), ne_eqb ((c.from.result + c.from-2.result) % 64) 40 (λ e. omega arith), ne_eqb ((c.from.result + c.from-2.result) % 64) 39 (λ e. omega arith), ne_eqb ((c.from.result + c.from-2.result) % 64) 3 (λ e. omega arith), ne_eqb ((c.from.result + c.from-2.result) % 64) 11 (λ e. omega arith), ne_eqb ((c.from.result + c.from-2.result) % 64) 7 (λ e. omega arith), ne_eqb ((c.from.result + c.from-2.result) % 64) 28 (λ e. omega arith)) refl)
