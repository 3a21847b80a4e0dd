-- Byte k of the eight is that of the image, whose bits are the items from 8 * k on.
use native.Mathlib.Omega.{arith}
use mathlib.Core.Path.{◌≡◌, sym, ap, ◌∙◌}
use mathlib.Core.List.{List}
use Prim.Native.Nat.{ℕ, ◌+◌, ◌*◌, ◌<◌}
use lib.ListN.{get_or}
use Rattle.bits.specs.Cells.{at}
use Rattle.bits.proofs.Indexed.{get_d_tabulate}
use Rattle.bits.proofs.Marks.{cell_bit}
use Rattle.bits.proofs.Eight.{of_bytes}
use Rattle.layouts.proofs.live.live_set.Goals as goal

pub returns : goal.returns
returns c =
    let s = c.args.image.now in
    let cell : (k : ℕ) → k < 8 → get_or c.live_bytes.result k 0 ≡ get_or s k 0 =
    λ k l. ap (λ (d : List ℕ). get_or d k 0) c.live_bytes.ensures ∙ get_d_tabulate 8 (λ (k : ℕ). get_or s k 0) k 0 l in
    c.from_le_bytes.ensures
    ∙ of_bytes c.live_bytes.result (at 8 s) (λ k l. rw (cell k l) (omega (arith, c.type_inv.image k)))
    (λ k b l h. rw (cell k l) (sym (cell_bit 8 (omega arith) s k b h (8 * k + b) (omega arith))))
