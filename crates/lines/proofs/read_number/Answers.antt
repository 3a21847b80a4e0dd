-- The tests of a number (`num_past`, `num_empty`, `num_long`, `num_padded`), and its value where it passes them (`num_value`). At most ten
-- digits of the first eleven bytes are all the digits (`digits-all`).
use native.Mathlib.Omega.{arith}
use mathlib.Core.Path.{◌≡◌, refl, sym, ap, ◌∙◌}
use mathlib.Core.Logic.{⊎_elim}
use borrow.Author.Tests.{eqb-true, eqb-false}
use lib.ListN.{length, take, drop}
use lib.Arith.{lt_of_le-ne}
use Rattle.lines.specs.Line.{digits}
use Rattle.lines.proofs.Line.{part-cut, digits-digits, digits-all, digits-more, num_past, num_empty, num_long, num_padded, num_value}
use Rattle.lines.proofs.read_number.Goals as goal
use Rattle.lines.proofs.read_number.Goals.{then-is_empty-via-then-is_empty, then-is_empty-via-else-is_empty+then-ds-gt10, else-ds-gt1-via-then-ds-gt1+else-ds-eq48, else-ds-gt1-via-else-ds-gt1}

pub returns-in_err-rest : goal.returns-in_err-rest
returns-in_err-rest c =
    c.from_residual.ensures ∙ num_past c.args.s.now c.args.at (⊎_elim (λ h. omega arith) (λ h. omega arith) c.in_err-rest.ensures.lookup.0)

pub returns-then-is_empty : goal.returns-then-is_empty
returns-then-is_empty c =
    let e = c.digits-ds.ensures ∙ ap digits (part-cut c.args.s.now c.args.at 11 c.in_ok-rest.ensures.lookup.0.2 c.min.ensures) in
    elim c.then-is_empty.branch [
      | then-is_empty-via-then-is_empty w ↦
          let z = eqb-true _ 0 (sym c.is_empty.ensures ∙ w.if-is_empty.true) in
          num_empty c.args.s.now c.args.at _ (digits-all _ (drop c.args.at c.args.s.now) e (omega arith)) z
      | then-is_empty-via-else-is_empty+then-ds-gt10 w ↦
          num_long c.args.s.now c.args.at _ refl (digits-more _ (drop c.args.at c.args.s.now) e w.if-ds-gt10.true)
    ]

pub returns-then-ds-eq48 : goal.returns-then-ds-eq48
returns-then-ds-eq48 c =
    let e = c.digits-ds.ensures ∙ ap digits (part-cut c.args.s.now c.args.at 11 c.in_ok-rest.ensures.lookup.0.2 c.min.ensures) in
    num_padded c.args.s.now c.args.at _ (digits-all _ (drop c.args.at c.args.s.now) e c.if-ds-gt10.false) c.if-ds-gt1.true c.if-ds-eq48.true

pub value_of-v-requires-clause-decimal : goal.value_of-v-requires-clause-decimal
value_of-v-requires-clause-decimal c = rw c.digits-ds.ensures (digits-digits (take c.min.result c.in_ok-rest.rest.now))

pub returns : goal.returns
returns c =
    let e = c.digits-ds.ensures ∙ ap digits (part-cut c.args.s.now c.args.at 11 c.in_ok-rest.ensures.lookup.0.2 c.min.ensures) in
    let n : length c.digits-ds.result.now ≡ 0 → ⊥ = eqb-false _ 0 (sym c.is_empty.ensures ∙ c.if-is_empty.false) in
    c.then_some.ensures
    ∙ rw (c.value_of-v.ensures, c.from.ensures)
    (num_value c.args.s.now c.args.at _ (digits-all _ (drop c.args.at c.args.s.now) e c.if-ds-gt10.false)
    (lt_of_le-ne (omega arith) (λ z. n (sym z))) c.if-ds-gt10.false
    (elim c.else-ds-gt1.branch [
      | else-ds-gt1-via-then-ds-gt1+else-ds-eq48 w ↦ λ l. w.if-ds-eq48.false
      | else-ds-gt1-via-else-ds-gt1 w ↦ λ l. absurd (omega arith)
    ]))
