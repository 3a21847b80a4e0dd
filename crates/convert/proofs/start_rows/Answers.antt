-- The rest is 0 (`zeroed-all`), so these are the rows to come without any item's grants (`rows_begin`).
use mathlib.Core.Path.{◌≡◌, ap, ◌∙◌}
use native.Mathlib.Omega.{arith}
use borrow.Author.Rules.{rules}
use lib.ListN.{get_or}
use Rattle.bits.proofs.Sweep.{swept_more}
use Rattle.bits.proofs.Zeros.{zeroed-all}
use Rattle.convert.proofs.Turned.{rows_begin, live_byte}
use Rattle.convert.proofs.start_rows.Goals as goal

pub loop-k-preserved : goal.loop-k-preserved
loop-k-preserved c =
    swept_more _ _ c.loop-k.k c.loop-k.target _ c.loop-k.invariant (omega (arith, c.loop-k.invariant.long, c.clear_each.auto.image))
    (ap (λ d. get_or d c.loop-k.k 0) c.to_le_bytes-live.ensures ∙ live_byte c.args.source.now c.loop-k.k c.loop-k-test.true (c.fits-source 0))

pub returns : goal.returns
returns c =
    let e : c.loop-k.k ≡ 8 = omega arith in
    let w = rw e at c.loop-k.invariant in
    rows_begin c.args.source.now c.loop-k.target (search rules) w.done
    (λ i h. w.rest i h ∙ ap (λ x. get_or x i 0) c.clear_each.ensures ∙ zeroed-all _ 4104 (search rules) i)
