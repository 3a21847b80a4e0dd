-- Where the last 16 of the rest are to others, the front before these is left (`left_less`).
use mathlib.Core.Path.{sym, ap, ◌∙◌}
use mathlib.Core.Bool.{not}
use mathlib.Core.List.{◌++◌}
use Prim.Native.Nat.{◌-◌}
use lib.ListN.{length, take-append-drop}
use Rattle.search.proofs.Lending.{left_less}
use Rattle.search.proofs.skip_back.Goals as goal

pub loop-front-preserved : goal.loop-front-preserved
loop-front-preserved c =
    let rest = c.loop-front.rest.now in
    let parts = c.in-Some.ensures.cases in
    let whole = sym (take-append-drop (length rest - 16) rest) ∙ (λ j. sym parts.0 j ++ sym parts.1 j) in
    left_less c.args.ls.now c.args.q.0 rest c.in-Some.front.now c.in-Some.block.now c.loop-front.invariant whole
    (sym c.any_to.ensures ∙ ap not c.if-any_to.false)
