-- It stops at a byte that is no digit (`pass_other`); before each of 16 digits the value is below 16 ^ 15, so that nothing overflows
-- (`pass_room`).
use native.Mathlib.Omega.{arith}
use mathlib.Core.Path.{◌∙◌}
use Rattle.lines.proofs.Hexadecimal.{digit_none, digit_some, pass_end, pass_other, pass_room, pass_next}
use Rattle.lines.proofs.set_of.Goals as goal

pub overflow_mul-v : goal.overflow_mul-v
overflow_mul-v c = omega (arith, pass_room c.loop-b.invariant c.requires c.loop-b-test.true)

pub returns-in_err-v : goal.returns-in_err-v
returns-in_err-v c =
    c.from_residual.ensures
    ∙ pass_other c.loop-b.invariant c.requires c.loop-b-test.true _ (digit_none _ c.in_err-v.ensures)

pub overflow_add-v : goal.overflow_add-v
overflow_add-v c =
    omega (
      arith,
      pass_room c.loop-b.invariant c.requires c.loop-b-test.true,
      digit_some _ _ c.in_ok-v.ensures,
    )

pub loop-b-preserved : goal.loop-b-preserved
loop-b-preserved c =
    let d = digit_some _ _ c.in_ok-v.ensures in
    rw d.1 (pass_next c.loop-b.invariant c.requires c.loop-b-test.true d.0)

pub returns : goal.returns
returns c = pass_end c.loop-b.invariant c.requires _ c.loop-b-test.false
