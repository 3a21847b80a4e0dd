-- The eight rows ORed show nothing under a mask where none of them does (`or_masked`).
use borrow.Author.Rules.{rules}
use Prim.Native.Nat.{ℕ, ◌+◌, ◌*◌}
use lib.Dec.{eqb}
use mathlib.Core.Path.{◌≡◌, refl, sym, ap, ◌∙◌}
use lib.ListN.{get_or}
use lib.Bits.{bit_and, bit_or}
use Rattle.bits.proofs.Indexed.{below_none}
use Rattle.bits.specs.Bits.{or_below}
use Rattle.bits.proofs.Scan.{scan_more, or_masked}
use Rattle.std.proofs.lemmas.Iterator.{YieldsList-from_range}
use Rattle.std.proofs.lemmas.Iterator.Consumers.{fold_from_yields_List}
use Rattle.layouts.proofs.live.hides.Goals as goal

pub loop-p-init : goal.loop-p-init
loop-p-init c = sym (below_none _)

pub loop-p-preserved : goal.loop-p-preserved
unfolding or_below
loop-p-preserved c =
    let byte : ℕ → ℕ = λ i. get_or c.args.block.now (c.loop-p.p-counter + 64 * i) 0 in
    let m = bit_or c.args.all (get_or c.args.masks.now c.loop-p.p-counter 0) in
    let rows : c.fold-x.result ≡ or_below 8 byte
    = fold_from_yields_List _ (λ x i. bit_or x (byte i)) 0 c.fold-x.result c.fold-x.ensures.ran (YieldsList-from_range 0 8 8 refl refl) (λ x i y q k. search rules) in
    scan_more c.loop-p.bits _ c.loop-p.p-counter _ c.loop-p.invariant (ap (λ (x : ℕ). eqb (bit_and x m) 0) rows ∙ or_masked 8 byte m)
