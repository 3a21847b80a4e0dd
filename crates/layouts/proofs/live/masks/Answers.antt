-- Each mask is that of its item's bit, which is in one of the first eight bytes of the image.
use borrow.Author.Rules.{rules}
use native.Mathlib.Omega.{arith}
use mathlib.Core.Path.{ap, ◌∙◌}
use mathlib.Core.Bool.{cond}
use mathlib.Core.List.{List}
use Prim.Native.Nat.{ℕ, ◌/◌, ◌%◌, ◌<◌}
use lib.ListN.{get_or}
use Rattle.bits.specs.Bits.{bit}
use Rattle.bits.specs.Cells.{at}
use Rattle.layouts.specs.Live.{masks_of}
use Rattle.bits.proofs.Indexed.{tabulate_ext, length-tabulate, get_d_tabulate}
use Rattle.bits.proofs.Made.{made_by}
use Rattle.layouts.proofs.live.masks.Goals as goal

pub returns : goal.returns
unfolding masks_of at
returns c =
    let s = c.args.image.now in
    let mask : List ℕ → ℕ → ℕ = λ d i. cond (bit (get_or d (i / 8) 0) (i % 8)) 0 255 in
    made_by _ (mask c.live_bytes-live.result) _ 64 (λ i y h l k. search rules) c.from_fn.result 0 c.from_fn.ensures.items
    ∙ tabulate_ext 64 _ 0 _ (length-tabulate 64 _)
    (λ i l. let b : i / 8 < 8 = omega arith in
    get_d_tabulate 64 (mask c.live_bytes-live.result) i 0 l
    ∙ ap (λ (n : ℕ). cond (bit n (i % 8)) 0 255)
    (ap (λ (d : List ℕ). get_or d (i / 8) 0) c.live_bytes-live.ensures ∙ get_d_tabulate 8 (λ (k : ℕ). get_or s k 0) (i / 8) 0 b))
