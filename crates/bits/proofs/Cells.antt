-- Laws of an image as an array of bits, for any width w of a cell.
use mathlib.Core.Path.{◌≡◌, sym, ap, ◌∙◌}
use mathlib.Core.Bool.{Bool}
use mathlib.Core.List.{List}
use Prim.Native.Nat.{ℕ, ◌+◌, ◌*◌, ◌/◌, ◌%◌, ◌^◌, ◌<◌}
use native.Mathlib.Nat.{div-add-mod', mod-lt, div-lt_iff_lt-mul}
use lib.ListN.{length, get_or}
use lib.Seq.{ext_get_or}
use lib.Arith.{digits_div, digits_mod, digits_lt}
use Rattle.bits.specs.Bits.{bit, of_bits}
use Rattle.bits.specs.Cells.{at, image}
use Rattle.bits.proofs.Indexed.{length-tabulate, get_d_tabulate}
use Rattle.bits.proofs.Bits.{ext, of_bits_lt, bit-of_bits}

pub length-image : (w n : ℕ) (f : ℕ → Bool) → length (image w n f) ≡ n
unfolding image
length-image w n f = length-tabulate n _

module _ (w : ℕ) (pos : 0 < w) where
  cell_lt : (n k : ℕ) → k < n * w → k / w < n
  cell_lt n k h = (div-lt_iff_lt-mul pos).1 h

  -- each bit is the one given
  pub at-image : (n : ℕ) (f : ℕ → Bool) (k : ℕ) → k < n * w → at w (image w n f) k ≡ f k
  unfolding at image
  at-image n f k h =
      ap (λ (x : ℕ). bit x (k % w)) (get_d_tabulate n _ (k / w) 0 (cell_lt n k h))
      ∙ bit-of_bits w (λ b. f (k / w * w + b)) (k % w) (mod-lt k pos) ∙ ap f (div-add-mod' k w)

  -- images of equal length with equal bits are equal
  pub ext_at : (s t : List ℕ) → length s ≡ length t → ((i : ℕ) → i < length s → get_or s i 0 < 2 ^ w)
      → ((i : ℕ) → i < length s → get_or t i 0 < 2 ^ w)
      → ((k : ℕ) → k < length s * w → at w s k ≡ at w t k) → s ≡ t
  unfolding at
  ext_at s t l hs ht e =
      ext_get_or 0 s t l
      (λ i h. ext w (get_or s i 0) (get_or t i 0) (hs i h) (ht i h)
      (λ b k. let p : at w s (i * w + b) ≡ at w t (i * w + b) = e (i * w + b) (digits_lt h k) in
      simp (digits_div i k, digits_mod i k) at p))

  pub image_lt : (n : ℕ) (f : ℕ → Bool) (i : ℕ) → i < n → get_or (image w n f) i 0 < 2 ^ w
  unfolding image
  image_lt n f i h = rw (get_d_tabulate {A = ℕ} n _ i 0 h) (of_bits_lt w _)

  pub image_cong : (n : ℕ) (f g : ℕ → Bool) → ((k : ℕ) → k < n * w → f k ≡ g k) → image w n f ≡ image w n g
  image_cong n f g e =
      ext_at (image w n f) (image w n g) (length-image w n f ∙ sym (length-image w n g))
      (λ i h. image_lt n f i (rw (length-image w n f) at h)) (λ i h. image_lt n g i (rw (length-image w n f) at h))
      (λ k h. let b : k < n * w = rw (length-image w n f) at h in at-image n f k b ∙ e k b ∙ sym (at-image n g k b))

  -- a cell is the number of its bits
  pub cell_is : (s : List ℕ) (c : ℕ) → get_or s c 0 < 2 ^ w → of_bits w (λ b. at w s (c * w + b)) ≡ get_or s c 0
  unfolding at
  cell_is s c h =
      ext w _ (get_or s c 0) (of_bits_lt w _) h (λ b k. bit-of_bits w _ b k ∙ rw (digits_div c k, digits_mod c k))
