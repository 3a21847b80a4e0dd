-- An item's bit out of every word, then its own eight words set to 0: the image after a delete.
use mathlib.Core.Path.{◌≡◌, sym, ap, ◌∙◌}
use mathlib.Core.Bool.{Bool, true, false, not, ◌&&◌, ◌||◌, cond, and-false, or-true, or-false}
use mathlib.Core.List.{List}
use Prim.Native.Nat.{ℕ, ◌+◌, ◌-◌, ◌*◌, ◌/◌, ◌%◌, ◌≤◌, ◌<◌}
use native.Mathlib.Omega.{arith}
use borrow.Author.Tests.{eqb-true, eqb-false, ltb-true, ltb-false}
use lib.ListN.{length, get_or}
use lib.Dec.{eqb, ltb}
use Rattle.bits.specs.Bits.{bit, without_bit}
use Rattle.layouts.specs.Layouts.{lists, deleted}
use Rattle.bits.proofs.Sets.{by_cases}
use Rattle.bits.proofs.Bits.{bit_of_zero, bit-without, without_le}
use Rattle.bits.proofs.Sweep.{Swept, Wiped}
use Rattle.layouts.proofs.Layouts.{lists-laws}
use Rattle.bits.proofs.Marks.{Cells}
use Rattle.layouts.proofs.Edits.{delete_is}
use Rattle.lists.proofs.InOrder.{word_bit}

-- a bit of a word of another item, or of the item itself
word_left : (n on p : ℕ) (b : Bool) → bit (cond b 0 (without_bit n on)) p ≡ bit n p && not (eqb p on || b)
word_left n on p true = bit_of_zero p ∙ sym (rw (or-true (eqb p on)) (and-false (bit n p)))
word_left n on p false = bit-without n on p ∙ rw (or-false (eqb p on))

left_le : (n on : ℕ) (b : Bool) → cond b 0 (without_bit n on) ≤ n
left_le n on true = omega arith
left_le n on false = without_le n on

module _ (s m t : List ℕ) (on a : ℕ) (l : length s ≡ 513) (o : on < 64) (q : a ≡ 1 + 8 * on)
    (u : Swept (λ k w. without_bit w (on % 64)) s (length s) m) (v : Wiped a 8 m t) where
  swept : (c : ℕ) → c < 513 → get_or m c 0 ≡ without_bit (get_or s c 0) on
  swept c h = u.done c (omega arith) ∙ ap (without_bit (get_or s c 0)) (let e : on % 64 ≡ on = omega arith in e)

  live-left : get_or t 0 0 ≡ without_bit (get_or s 0 0) on
  live-left = v.below 0 (omega arith) ∙ swept 0 (omega arith)

  list_left : (j : ℕ) → j < 512 → get_or t (1 + j) 0 ≡ cond (eqb (j / 8) on) 0 (without_bit (get_or s (1 + j) 0) on)
  list_left j h =
      by_cases (eqb (j / 8) on) (λ e. let z = eqb-true (j / 8) on e in rw e (v.inside (1 + j) (omega arith) (omega arith)))
      (λ e. let z = eqb-false (j / 8) on e in
      rw e
      (by_cases (ltb (1 + j) a) (λ b. v.below (1 + j) (ltb-true (1 + j) a b))
      (λ b. v.above (1 + j) (omega (arith, ltb-false (1 + j) a b)))
      ∙ swept (1 + j) (omega arith)))

  cells_left : Cells 64 s → Cells 64 t
  cells_left h i b =
      let c : i < 513 = omega (arith, v.long, u.long) in
      by_cases (ltb 0 i)
      (λ e. let z = ltb-true 0 i e in
      let j : 1 + (i - 1) ≡ i = omega arith in
      let w = rw j at (list_left (i - 1) (omega arith)) in
      omega (arith, left_le (get_or s i 0) on (eqb ((i - 1) / 8) on), h i (omega arith)))
      (λ e. let z : i ≡ 0 = omega (arith, ltb-false 0 i e) in
      rw z (omega (arith, live-left, without_le (get_or s 0 0) on, h 0 (omega arith))))

  pub removed : Cells 64 s → t ≡ deleted lists s on
  unfolding lists
  removed h =
      delete_is lists lists-laws s l h t on (v.long ∙ u.long ∙ l) (cells_left h)
      (λ i b. word_bit t i 0 i b (omega arith) ∙ ap (λ (w : ℕ). bit w i) live-left ∙ bit-without (get_or s 0 0) on i
      ∙ ap (λ x. x && not (eqb i on)) (sym (word_bit s i 0 i b (omega arith))))
      (λ k b. word_bit t (64 + k) (1 + k / 64) (k % 64) (omega arith) (omega arith)
      ∙ ap (λ (w : ℕ). bit w (k % 64)) (list_left (k / 64) (omega arith))
      ∙ word_left (get_or s (1 + k / 64) 0) on (k % 64) (eqb (k / 64 / 8) on)
      ∙ rw (let e : k / 64 / 8 ≡ k / 512 = omega arith in e)
      (ap (λ x. x && not (eqb (k % 64) on || eqb (k / 512) on))
      (sym (word_bit s (64 + k) (1 + k / 64) (k % 64) (omega arith) (omega arith)))))
