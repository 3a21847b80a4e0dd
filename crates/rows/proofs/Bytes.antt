-- What code does to the bytes of rows, as the edits of a command: the byte of person p and item o stands at
-- 8 + (64 * p + o), and its bit r is the right r.
use mathlib.Core.Path.{◌≡◌, ◌∙◌}
use mathlib.Core.List.{List}
use Prim.Native.Nat.{ℕ, ◌+◌, ◌*◌, ◌/◌, ◌%◌, ◌<◌}
use native.Mathlib.Omega.{arith}
use lib.ListN.{length, get_or, set}
use Rattle.bits.specs.Bits.{bit, with_bit, without_bit}
use Rattle.bits.specs.Zeros.{zeroed, spaced}
use Rattle.model.specs.Journal.{grant}
use Rattle.layouts.specs.Layouts.{rows, held, live_in, created, deleted, allowed, withdrawn}
use Rattle.layouts.proofs.Layouts.{rows-laws}
use Rattle.bits.proofs.Marks.{Cells, marked, cleared, cell_bit}
use Rattle.layouts.proofs.Edits.{rows-flat, held_is, allow_is, withdraw_is, create_is, delete-cells}
use Rattle.bits.proofs.Zeros.{spaced_before, spaced_block, spaced-column}

-- bit b of byte c
pub byte_bit : (s : List ℕ) (k c b : ℕ) → b < 8 → k ≡ c * 8 + b → live_in rows s k ≡ bit (get_or s c 0) b
unfolding rows
byte_bit s k c b h e = cell_bit 8 (omega arith) s c b h k e

pub root-bit : (s : List ℕ) → live_in rows s 0 ≡ bit (get_or s 0 0) 0
root-bit s = byte_bit s 0 0 0 (omega arith) (omega arith)

pub rows-held : (s : List ℕ) (p o r : ℕ) → r < 8 → held rows s p o r ≡ bit (get_or s (8 + (64 * p + o)) 0) (r % 8)
unfolding rows
rows-held s p o r h = held_is rows rows-laws rows-flat s p o r (8 + (64 * p + o)) (r % 8) (omega arith) (omega arith)

module _ (s : List ℕ) (l : length s ≡ 4104) (h : Cells 8 s) where
  pub rows-allow : (p o r : ℕ) → p < 64 → o < 64 → r < 8
      → set s (8 + (64 * p + o)) (with_bit (get_or s (8 + (64 * p + o)) 0) (r % 8)) ≡ allowed rows s (grant p o r 0)
  unfolding rows
  rows-allow p o r a b c =
      allow_is rows rows-laws s l h p o r 0 (8 + (64 * p + o)) (r % 8) a b c (omega arith) (omega arith) (omega arith)

  pub rows-withdraw : (p o r : ℕ) → p < 64 → o < 64 → r < 8
      → set s (8 + (64 * p + o)) (without_bit (get_or s (8 + (64 * p + o)) 0) (r % 8)) ≡ withdrawn rows s p o r
  unfolding rows
  rows-withdraw p o r a b c =
      withdraw_is rows rows-laws s l h rows-flat p o r (8 + (64 * p + o)) (r % 8) a b c (omega arith) (omega arith)

  -- delete: the item out of the live set, its row, then its byte in each row
  cells_left : (on : ℕ) → on < 64
      → zeroed (spaced (8 + on) 64 64) (zeroed (spaced (8 + 64 * on) 1 64) (cleared s (on / 8) (on % 8))) ≡ deleted rows s on
  unfolding rows
  cells_left on o =
      delete-cells rows rows-laws s l h on (on / 8) (on % 8) (spaced (8 + 64 * on) 1 64) (spaced (8 + on) 64 64) o (omega arith)
      (omega arith) (omega arith)
      (λ i u. rw (spaced_before (8 + 64 * on) 1 64 (i / 8) (omega arith), spaced_before (8 + on) 64 64 (i / 8) (omega arith)))
      (λ i u. let e : (64 + i) / 8 ≡ 8 + i / 8 = omega arith in
      let q : i / 8 / 64 ≡ i / 512 = omega arith in
      rw (e, spaced_block 8 64 on (i / 8) (omega arith), spaced-column 8 64 64 on (i / 8) o (omega arith), q))

  -- u, v and x are what the three steps of the code leave, i the item as the code has it
  pub rows-delete : (on i : ℕ) (u v x : List ℕ) → on < 64 → i ≡ on → u ≡ cleared s (on / 8) (on % 8)
      → v ≡ zeroed (spaced (8 + 64 * i) 1 64) u → x ≡ zeroed (spaced (8 + i) 64 64) v → x ≡ deleted rows s on
  rows-delete on i u v x o e f g q = q ∙ rw (g, f, e) (cells_left on o)

-- create: the item into the live set, which leaves u, then an edit grant
pub rows-create : (s u x : List ℕ) (p o r : ℕ) → length s ≡ 4104 → o < 64 → r ≡ 0 → u ≡ marked s (o / 8) (o % 8)
    → x ≡ allowed rows u (grant p o r 0) → x ≡ created rows s p o
unfolding rows
rows-create s u x p o r l b y e q = q ∙ rw (e, y) (create_is rows rows-laws s l p o (o / 8) (o % 8) b (omega arith) (omega arith))
