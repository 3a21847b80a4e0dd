-- Each place is of one of 64 items, so at the end none is missing (`rows_end`).
use mathlib.Core.Path.{◌≡◌, ◌∙◌}
use native.Mathlib.Omega.{arith}
use Rattle.convert.proofs.Turned.{rows_end}
use Rattle.convert.proofs.fill_rows.Goals as goal

pub returns : goal.returns
returns c =
    let e : c.loop-on.on ≡ 64 = omega arith in
    (rw e at c.loop-on.invariant) ∙ rows_end c.args.source.now
