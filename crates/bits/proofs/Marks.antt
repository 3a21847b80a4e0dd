-- What code does to cells, as what it does to an image's bits, for any width w.
use mathlib.Core.Path.{◌≡◌, refl, sym, ap, ap₂, ◌∙◌}
use mathlib.Core.Bool.{Bool, false, not, ◌&&◌, ◌||◌, and-true, or-false}
use mathlib.Core.List.{List}
use Prim.Native.Nat.{ℕ, ◌+◌, ◌*◌, ◌/◌, ◌%◌, ◌^◌, ◌<◌, zero, suc}
use native.Mathlib.Nat.{div-add-mod'}
use borrow.Author.Tests.{eqb-true, eqb-false, eq-eqb, ne_eqb}
use lib.ListN.{length, get_or, set, length-set}
use lib.Seq.{get_or-set_same, get_or-set_other}
use lib.Arith.{digits_div, digits_mod}
use lib.Dec.{eqb}
use Rattle.bits.specs.Sets.{tabulate}
use Rattle.bits.specs.Bits.{bit, with_bit, without_bit}
use Rattle.bits.specs.Cells.{at, image}
use Rattle.bits.proofs.Sets.{iff, by_cases}
use Rattle.bits.proofs.Bits.{bit_of_zero, bit_with, bit-without, with_lt, without_lt}
use Rattle.bits.proofs.Cells.{at-image, ext_at, image_lt, length-image}

-- each cell has w bits
abbrev pub Cells : ℕ → List ℕ → Type 0
Cells w s = (i : ℕ) → i < length s → get_or s i 0 < 2 ^ w

-- cell c with bit b, and without it
abbrev pub marked : List ℕ → ℕ → ℕ → List ℕ
marked s c b = set s c (with_bit (get_or s c 0) b)

abbrev pub cleared : List ℕ → ℕ → ℕ → List ℕ
cleared s c b = set s c (without_bit (get_or s c 0) b)

-- cells of 0
unfoldable pub blanks : ℕ → List ℕ
blanks n = tabulate n (λ (i : ℕ). 0)

pub blank : (n i : ℕ) → get_or (blanks n) i 0 ≡ 0
unfolding blanks tabulate
blank zero i = refl
blank (suc n) zero = refl
blank (suc n) (suc i) = blank n i

-- ---- one bit of an image
pub at_none : (w : ℕ) (z : List ℕ) → ((i : ℕ) → get_or z i 0 ≡ 0) → (k : ℕ) → at w z k ≡ false
unfolding at
at_none w z o k = rw (o (k / w)) (bit_of_zero (k % w))

module _ (w : ℕ) (pos : 0 < w) where
  -- a list of cells is the image of its bits
  pub image_is : (s : List ℕ) (n : ℕ) (f : ℕ → Bool) → length s ≡ n → Cells w s → ((k : ℕ) → k < n * w → at w s k ≡ f k) → s ≡ image w n f
  image_is s n f l h e =
      ext_at w pos s (image w n f) (l ∙ sym (length-image w n f)) h (λ i b. image_lt w pos n f i (rw l at b))
      (λ k b. let c : k < n * w = rw l at b in e k c ∙ sym (at-image w pos n f k c))

  pub cells-set : (s : List ℕ) (j v : ℕ) → Cells w s → v < 2 ^ w → Cells w (set s j v)
  cells-set s j v h l i b =
      by_cases (eqb i j)
      (λ t. let q : i ≡ j = eqb-true i j t in
      let c : i < length s = rw (length-set s j v) at b in
      rw (q, get_or-set_same s j v 0 (rw q at c)) l)
      (λ t. rw (get_or-set_other s j i v 0 (eqb-false i j t)) (h i (rw (length-set s j v) at b)))

  module _ (s : List ℕ) (c b : ℕ) (k : b < w) where
    pub at_cell : at w s (c * w + b) ≡ bit (get_or s c 0) b
    unfolding at
    at_cell = rw (digits_div c k, digits_mod c k)

    -- the same for the bit's number in the image
    pub cell_bit : (i : ℕ) → i ≡ c * w + b → at w s i ≡ bit (get_or s c 0) b
    cell_bit i e = ap (at w s) e ∙ at_cell

    -- bit i is the one, where its cell is c
    same_bit : (i : ℕ) → i / w ≡ c → eqb (i % w) b ≡ eqb i (c * w + b)
    same_bit i q =
        iff (eqb (i % w) b) (eqb i (c * w + b))
        (λ e. eq-eqb i (c * w + b) (sym (div-add-mod' i w) ∙ ap₂ (λ (x y : ℕ). x * w + y) q (eqb-true (i % w) b e)))
        (λ e. eq-eqb (i % w) b (ap (λ (x : ℕ). x % w) (eqb-true i (c * w + b) e) ∙ digits_mod c k))

    other_bit : (i : ℕ) → (i / w ≡ c → ⊥) → eqb i (c * w + b) ≡ false
    other_bit i n = ne_eqb i (c * w + b) (λ e. n (ap (λ (x : ℕ). x / w) e ∙ digits_div c k))

    pub at_marked : (i : ℕ) → c < length s → at w (marked s c b) i ≡ at w s i || eqb i (c * w + b)
    unfolding at
    at_marked i h =
        by_cases (eqb (i / w) c)
        (λ t. let q : i / w ≡ c = eqb-true (i / w) c t in
        rw (← (same_bit i q), q, get_or-set_same s c (with_bit (get_or s c 0) b) 0 h) (bit_with (get_or s c 0) b (i % w)))
        (λ t. let n : i / w ≡ c → ⊥ = eqb-false (i / w) c t in
        rw (get_or-set_other s c (i / w) (with_bit (get_or s c 0) b) 0 n, other_bit i n) (sym (or-false _)))

    pub at_cleared : (i : ℕ) → c < length s → at w (cleared s c b) i ≡ at w s i && not (eqb i (c * w + b))
    unfolding at
    at_cleared i h =
        by_cases (eqb (i / w) c)
        (λ t. let q : i / w ≡ c = eqb-true (i / w) c t in
        rw (← (same_bit i q), q, get_or-set_same s c (without_bit (get_or s c 0) b) 0 h) (bit-without (get_or s c 0) b (i % w)))
        (λ t. let n : i / w ≡ c → ⊥ = eqb-false (i / w) c t in
        rw (get_or-set_other s c (i / w) (without_bit (get_or s c 0) b) 0 n, other_bit i n) (sym (and-true _)))

    pub cells_marked : c < length s → Cells w s → Cells w (marked s c b)
    cells_marked h f = cells-set s c _ f (with_lt w (get_or s c 0) b (f c h) k)

    pub cells_cleared : c < length s → Cells w s → Cells w (cleared s c b)
    cells_cleared h f = cells-set s c _ f (without_lt w (get_or s c 0) b (f c h))
