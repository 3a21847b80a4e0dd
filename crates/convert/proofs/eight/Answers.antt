-- The bits of byte k of the eight are those of the bytes' bits from 8 * k on.
use native.Mathlib.Omega.{arith}
use borrow.Author.Rules.{rules}
use mathlib.Core.Path.{◌≡◌, sym, ap, ◌∙◌}
use mathlib.Core.List.{List}
use Prim.Native.Nat.{ℕ, ◌+◌, ◌*◌, ◌<◌}
use lib.ListN.{get_or}
use Rattle.bits.specs.Cells.{at}
use Rattle.bits.proofs.Indexed.{get_d_tabulate}
use Rattle.bits.proofs.Marks.{cell_bit}
use Rattle.bits.proofs.Made.{made_by}
use Rattle.bits.proofs.Eight.{of_bytes}
use Rattle.convert.proofs.eight.Goals as goal

pub returns : goal.returns
returns c =
    let s = c.args.source.now in
    let a = c.args.first in
    let e = made_by _ (λ (k : ℕ). get_or s (a + k) 0) _ 8 (λ k y h l q. search rules) c.from_fn.result 0 c.from_fn.ensures.items in
    let cell : (k : ℕ) → k < 8 → get_or c.from_fn.result k 0 ≡ get_or s (a + k) 0 =
    λ k l. ap (λ (d : List ℕ). get_or d k 0) e ∙ get_d_tabulate 8 (λ (k : ℕ). get_or s (a + k) 0) k 0 l in
    c.from_le_bytes.ensures
    ∙ of_bytes c.from_fn.result (λ i. at 8 s (8 * a + i)) (λ k l. rw (cell k l) (omega (arith, c.fits-source (a + k))))
    (λ k b l h. rw (cell k l) (sym (cell_bit 8 (omega arith) s (a + k) b h (8 * a + (8 * k + b)) (omega arith))))
