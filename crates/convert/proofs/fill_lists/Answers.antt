-- Each place is of one of 512 blocks, so at the end none is missing (`lists-end`).
use mathlib.Core.Path.{◌≡◌, ◌∙◌}
use native.Mathlib.Omega.{arith}
use Rattle.convert.proofs.Turned.{lists-end}
use Rattle.convert.proofs.fill_lists.Goals as goal

pub returns : goal.returns
returns c =
    let e : c.loop-t.t ≡ 512 = omega arith in
    (rw e at c.loop-t.invariant) ∙ lists-end c.args.source.now
