-- Laws of cells set to 0, for any width w.
use mathlib.Core.Path.{◌≡◌, refl, sym, ap, ◌∙◌}
use mathlib.Core.Bool.{Bool, true, false, not, ◌&&◌, cond, and-true, and-false}
use mathlib.Core.List.{List}
use Prim.Native.Nat.{ℕ, ◌+◌, ◌*◌, ◌/◌, ◌%◌, ◌^◌, ◌≤◌, ◌<◌}
use native.Mathlib.Nat.{div-add-mod', mod-lt, div-lt_iff_lt-mul, mul_comm}
use native.Mathlib.Omega.{arith}
use borrow.Author.Tests.{eqb-true, eqb-false, eq-eqb, ltb-true, ltb-false}
use lib.ListN.{length, get_or, set, length-set, get_or-eq_default}
use lib.Seq.{get_or-set_same, get_or-set_other}
use lib.Arith.{digits_div, digits_mod}
use lib.Dec.{eqb, ltb}
use Rattle.bits.specs.Sets.{any_below}
use Rattle.bits.specs.Bits.{bit}
use Rattle.bits.specs.Cells.{at}
use Rattle.bits.specs.Zeros.{zeroed, spaced}
use Rattle.bits.proofs.Sets.{iff, by_cases}
use Rattle.bits.proofs.Indexed.{length-tabulate, get_d_tabulate, tabulate_ext, some_intro, some_elim}
use Rattle.bits.proofs.Strides.{Zeroed}
use Rattle.bits.proofs.Bits.{bit_of_zero}
use Rattle.bits.proofs.Marks.{Cells}

-- a cell past the end
zero_either : (b : Bool) → ◌≡◌ {A = ℕ} (cond b 0 0) 0
zero_either true = refl
zero_either false = refl

module _ (f : ℕ → Bool) (s : List ℕ) where
  pub length-zeroed : length (zeroed f s) ≡ length s
  unfolding zeroed
  length-zeroed = length-tabulate (length s) _

  pub get_or-zeroed : (k : ℕ) → get_or (zeroed f s) k 0 ≡ cond (f k) 0 (get_or s k 0)
  unfolding zeroed
  get_or-zeroed k =
      by_cases (ltb k (length s)) (λ t. get_d_tabulate (length s) (λ (k : ℕ). cond (f k) 0 (get_or s k 0)) k 0 (ltb-true k (length s) t))
      (λ t. let h : length s ≤ k = ltb-false k (length s) t in
      let m : length (zeroed f s) ≤ k = rw length-zeroed h in
      get_or-eq_default (zeroed f s) 0 m ∙ sym (rw (get_or-eq_default s 0 h) (zero_either (f k))))

  -- a loop that has put 0 in each of those cells
  pub zeroed_is : (m : List ℕ) → Zeroed f s m → m ≡ zeroed f s
  unfolding zeroed
  zeroed_is m z = tabulate_ext (length s) _ 0 m z.long (λ i l. z.cell i)

  pub at-zeroed : (w k : ℕ) → at w (zeroed f s) k ≡ at w s k && not (f (k / w))
  unfolding at
  at-zeroed w k = ap (λ (x : ℕ). bit x (k % w)) (get_or-zeroed (k / w)) ∙ go (f (k / w))
    where
      go : (b : Bool) → bit (cond b 0 (get_or s (k / w) 0)) (k % w) ≡ bit (get_or s (k / w) 0) (k % w) && not b
      go true = bit_of_zero (k % w) ∙ sym (and-false (bit (get_or s (k / w) 0) (k % w)))
      go false = sym (and-true _)

  pub cells-zeroed : (w : ℕ) → Cells w s → Cells w (zeroed f s)
  cells-zeroed w h i l = rw (get_or-zeroed i) (go (f i) (h i (rw length-zeroed at l)))
    where
      go : (b : Bool) → get_or s i 0 < 2 ^ w → cond b 0 (get_or s i 0) < 2 ^ w
      go true l = omega arith
      go false l = l

-- one cell
pub zeroed-one : (s : List ℕ) (c : ℕ) → c < length s → set s c 0 ≡ zeroed (λ k. eqb k c) s
zeroed-one s c h =
    zeroed_is (λ k. eqb k c) s (set s c 0)
    (record {
      long = length-set s c 0;
      cell =
          λ k. by_cases (eqb k c) (λ t. rw (t, eqb-true k c t) (get_or-set_same s c 0 0 h))
          (λ t. rw t (get_or-set_other s c k 0 0 (eqb-false k c t)));
    })

-- ---- spaced cells
pub spaced_before : (a step n k : ℕ) → k < a → spaced a step n k ≡ false
unfolding spaced
spaced_before a step n k h =
    by_cases (any_below n (λ j. eqb k (a + step * j)))
    (λ t. let f = some_elim n (λ j. eqb k (a + step * j)) t in absurd (omega (arith, eqb-true k (a + step * f.0) f.2))) (λ t. t)

-- all of them
pub spaced-all : (n k : ℕ) → k < n → spaced 0 1 n k ≡ true
unfolding spaced
spaced-all n k h = some_intro n (λ j. eqb k (0 + 1 * j)) k h (eq-eqb k (0 + 1 * k) (omega arith))

pub zeroed-all : (s : List ℕ) (n : ℕ) → length s ≡ n → (i : ℕ) → get_or (zeroed (spaced 0 1 n) s) i 0 ≡ 0
zeroed-all s n l i =
    get_or-zeroed (spaced 0 1 n) s i
    ∙ by_cases (ltb i n) (λ t. rw (spaced-all n i (ltb-true i n t)))
    (λ t. let h : length s ≤ i = rw l (ltb-false i n t) in rw (get_or-eq_default s 0 h) (zero_either (spaced 0 1 n i)))

-- block i of n cells, past the first a
pub spaced_block : (a n i m : ℕ) → 0 < n → spaced (a + n * i) 1 n (a + m) ≡ eqb (m / n) i
unfolding spaced
spaced_block a n i m h =
    iff _ _
    (λ t. let f = some_elim n (λ j. eqb (a + m) (a + n * i + 1 * j)) t in
    let e : m ≡ i * n + f.0 = omega (arith, mul_comm n i, eqb-true (a + m) (a + n * i + 1 * f.0) f.2) in
    eq-eqb (m / n) i (rw e (digits_div i f.1)))
    (λ t. let e : i * n + m % n ≡ m = rw (eqb-true (m / n) i t) at (div-add-mod' m n) in
    some_intro n (λ j. eqb (a + m) (a + n * i + 1 * j)) (m % n) (mod-lt m h)
    (eq-eqb (a + m) (a + n * i + 1 * (m % n)) (omega (arith, mul_comm n i))))

-- cell i of each of n rows of w cells, past the first a
pub spaced-column : (a w n i m : ℕ) → i < w → m < n * w → spaced (a + i) w n (a + m) ≡ eqb (m % w) i
unfolding spaced
spaced-column a w n i m h l =
    iff _ _
    (λ t. let f = some_elim n (λ j. eqb (a + m) (a + i + w * j)) t in
    let e : m ≡ f.0 * w + i = omega (arith, mul_comm w f.0, eqb-true (a + m) (a + i + w * f.0) f.2) in
    eq-eqb (m % w) i (rw e (digits_mod f.0 h)))
    (λ t. let p : 0 < w = omega arith in
    let e : m / w * w + i ≡ m = rw (eqb-true (m % w) i t) at (div-add-mod' m w) in
    some_intro n (λ j. eqb (a + m) (a + i + w * j)) (m / w) ((div-lt_iff_lt-mul p).1 l)
    (eq-eqb (a + m) (a + i + w * (m / w)) (omega (arith, mul_comm w (m / w)))))
