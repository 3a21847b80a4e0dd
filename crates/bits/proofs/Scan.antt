-- Laws of a scan of cells, for any width w: code ORs cells into one number and tests that number once.
use mathlib.Core.Path.{◌≡◌, refl, sym, ap, ap₂, ◌∙◌}
use mathlib.Core.Bool.{Bool, true, false, not, ◌&&◌, ◌||◌, cond, and_comm, or_comm, or-true, or-false, and_assoc, and-true}
use mathlib.Core.List.{List}
use Prim.Native.Nat.{ℕ, zero, suc, ◌+◌, ◌-◌, ◌^◌, ◌≤◌, ◌<◌}
use native.Mathlib.Nat.{mod-eq_of_lt, pow-succ'}
use native.Mathlib.Numerals.{add-one}
use native.Mathlib.Omega.{arith}
use borrow.Author.Tests.{eqb-true, eq-eqb, ne_eqb}
use lib.ListN.{length, take, drop, get_or, length-take, length-drop}
use lib.Seq.{get_or-take, get_or-drop}
use lib.Bits.{bit_and, bit_or, or_add_and, and_le_l, and_le_r, and_zero_l, and_zero_r, and_mask, or_lt, or_zero_l, or_zero_r, or_self}
use lib.Pow.{pow_pos}
use lib.Dec.{eqb, eqb-suc-zero}
use Rattle.bits.specs.Sets.{all_below, any_below}
use Rattle.bits.specs.Bits.{bit, or_below}
use Rattle.bits.proofs.Sets.{iff}
use Rattle.bits.proofs.Indexed.{below_intro, below_elim, below_suc, below_ext, below_or, below-and}
use Rattle.bits.proofs.Bits.{ext, bit-or, bit-and, bit_of_zero, zero-of_bits, within}

-- `a | b` is 0 where both are
pub or-zero : (a b : ℕ) → eqb (bit_or a b) 0 ≡ eqb a 0 && eqb b 0
or-zero a b = go a b (bit_or a b) (bit_and a b) (or_add_and a b) (and_le_l a b) (and_le_r a b)
  where
    go : (a b o n : ℕ) → o + n ≡ a + b → n ≤ a → n ≤ b → eqb o 0 ≡ eqb a 0 && eqb b 0
    go zero zero o n e l k = eq-eqb o 0 (omega arith)
    go zero (suc b) o n e l k = ne_eqb o 0 (λ z. omega arith) ∙ sym (eqb-suc-zero b)
    go (suc a) b o n e l k = ne_eqb o 0 (λ z. omega arith) ∙ sym (ap (λ x. x && eqb b 0) (eqb-suc-zero a))

-- a turn: the numbers ORed so far are 0 where each test passed, and so is the next
pub scan_more : (bad x n : ℕ) (f : ℕ → Bool) → eqb bad 0 ≡ all_below n f → eqb x 0 ≡ f n → eqb (bit_or bad x) 0 ≡ all_below (n + 1) f
scan_more bad x n f e d = or-zero bad x ∙ ap₂ ◌&&◌ e d ∙ and_comm (all_below n f) (f n) ∙ sym (below_suc n f)

-- the same of a list: the whole passes where the numbers ORed so far are 0 and the rest passes
pub scan_next : (bad x : ℕ) (whole next rest : Bool) → whole ≡ eqb bad 0 && (next && rest) → eqb x 0 ≡ next
    → whole ≡ eqb (bit_or bad x) 0 && rest
scan_next bad x whole next rest e d =
    e ∙ sym (and_assoc (eqb bad 0) next rest) ∙ ap (λ b. b && rest) (ap (λ b. eqb bad 0 && b) (sym d) ∙ sym (or-zero bad x))

pub scan_end : (b whole rest : Bool) → whole ≡ b && rest → rest ≡ true → b ≡ whole
scan_end b whole rest e d = sym (e ∙ rw d (and-true b))

-- a cell under a mask of no bits or of all w
pub mask_zero : (w x : ℕ) (b : Bool) → x < 2 ^ w → eqb (bit_and x (cond b 0 (2 ^ w - 1))) 0 ≡ eqb x 0 || b
mask_zero w x true l = ap (λ (y : ℕ). eqb y 0) (and_zero_r x) ∙ sym (or-true (eqb x 0))
mask_zero w x false l = ap (λ (y : ℕ). eqb y 0) (and_mask x w ∙ mod-eq_of_lt l) ∙ sym (or-false (eqb x 0))

-- a cell under two such masks: nothing shows where it is 0, or both hide it
pub mask_both : (w x : ℕ) (a b : Bool) → x < 2 ^ w
    → eqb (bit_and x (bit_or (cond a 0 (2 ^ w - 1)) (cond b 0 (2 ^ w - 1)))) 0 ≡ eqb x 0 || (a && b)
mask_both w x a b h = ap (λ (y : ℕ). eqb (bit_and x y) 0) (masks a b) ∙ mask_zero w x (a && b) h
  where
    masks : (a b : Bool) → bit_or (cond a 0 (2 ^ w - 1)) (cond b 0 (2 ^ w - 1)) ≡ cond (a && b) 0 (2 ^ w - 1)
    masks true b = or_zero_l (cond b 0 (2 ^ w - 1))
    masks false true = or_zero_r (2 ^ w - 1)
    masks false false = or_self (2 ^ w - 1)

-- a cell each of whose bits passes: it has none, or the test holds
pub cell_named : (w x : ℕ) (b : Bool) → x < 2 ^ w → all_below w (λ i. not (bit x i) || b) ≡ eqb x 0 || b
cell_named w x b l =
    below_or w (λ i. not (bit x i)) b
    ∙ ap (λ y. y || b)
    (iff (all_below w (λ i. not (bit x i))) (eqb x 0) (λ t. eq-eqb x 0 (zero-of_bits w x l (λ i k. absent (bit x i) (below_elim w _ t i k))))
    (λ t. below_intro w _ (λ i k. ap not (ap (λ (y : ℕ). bit y i) (eqb-true x 0 t) ∙ bit_of_zero i))))
  where
    absent : (b : Bool) → not b ≡ true → b ≡ false
    absent true e = sym e
    absent false e = refl

within_none : (w b : ℕ) → within w 0 b ≡ true
unfolding within
within_none w b = below_intro w _ (λ i l. rw (bit_of_zero i))

-- two cells together have only bits of b where each has
pub within-or : (w x y b : ℕ) → within w (bit_or x y) b ≡ within w x b && within w y b
unfolding within
within-or w x y b =
    below_ext w _ _ (λ i l. ap (λ z. not z || bit b i) (bit-or x y i) ∙ part (bit x i) (bit y i) (bit b i))
    ∙ below-and w (λ i. not (bit x i) || bit b i) (λ i. not (bit y i) || bit b i)
  where
    part : (x y r : Bool) → not (x || y) || r ≡ (not x || r) && (not y || r)
    part true true true = refl
    part true true false = refl
    part true false true = refl
    part true false false = refl
    part false y r = refl

pub or-none : (f : ℕ → ℕ) → or_below 0 f ≡ 0
unfolding or_below
or-none f = refl

pub or_more : (n : ℕ) (f : ℕ → ℕ) → or_below (n + 1) f ≡ bit_or (or_below n f) (f n)
unfolding or_below
or_more n f = rw (add-one n)

pub or_step : (bits x n : ℕ) (f : ℕ → ℕ) → bits ≡ or_below n f → x ≡ f n → bit_or bits x ≡ or_below (n + 1) f
or_step bits x n f e d = ap₂ bit_or e d ∙ sym (or_more n f)

pub or_ext : (n : ℕ) (f g : ℕ → ℕ) → ((k : ℕ) → k < n → f k ≡ g k) → or_below n f ≡ or_below n g
unfolding or_below
or_ext zero f g e = refl
or_ext (suc n) f g e = ap₂ bit_or (or_ext n f g (λ k l. e k (omega arith))) (e n (omega arith))

pub or_lt_below : (w n : ℕ) (f : ℕ → ℕ) → ((k : ℕ) → k < n → f k < 2 ^ w) → or_below n f < 2 ^ w
unfolding or_below
or_lt_below w zero f h = pow_pos w
or_lt_below w (suc n) f h = or_lt w _ _ (or_lt_below w n f (λ k l. h k (omega arith))) (h n (omega arith))

pub or-zero-below : (n : ℕ) (f : ℕ → ℕ) → eqb (or_below n f) 0 ≡ all_below n (λ k. eqb (f k) 0)
unfolding or_below all_below
or-zero-below zero f = refl
or-zero-below (suc n) f =
    or-zero (or_below n f) (f n) ∙ and_comm (eqb (or_below n f) 0) (eqb (f n) 0) ∙ ap (λ x. eqb (f n) 0 && x) (or-zero-below n f)

pub or-within-below : (w n : ℕ) (f : ℕ → ℕ) (b : ℕ) → within w (or_below n f) b ≡ all_below n (λ k. within w (f k) b)
unfolding or_below all_below
or-within-below w zero f b = within_none w b
or-within-below w (suc n) f b =
    within-or w (or_below n f) (f n) b ∙ and_comm (within w (or_below n f) b) (within w (f n) b)
    ∙ ap (λ x. within w (f n) b && x) (or-within-below w n f b)

pub or-bit-below : (n : ℕ) (f : ℕ → ℕ) (i : ℕ) → bit (or_below n f) i ≡ any_below n (λ k. bit (f k) i)
unfolding or_below any_below
or-bit-below zero f i = bit_of_zero i
or-bit-below (suc n) f i =
    bit-or (or_below n f) (f n) i ∙ or_comm (bit (or_below n f) i) (bit (f n) i) ∙ ap (λ x. bit (f n) i || x) (or-bit-below n f i)

-- the elements of the part from a to a + n
pub or-part : (s : List ℕ) (a n : ℕ) → a + n ≤ length s
    → or_below (length (take (a + n - a) (drop a s))) (λ i. get_or (take (a + n - a) (drop a s)) i 0) ≡ or_below n (λ i. get_or s (a + i) 0)
or-part s a n h =
    let l : length (take (a + n - a) (drop a s)) ≡ n = simp (length-take, length-drop) (omega arith) in
    ap (λ (m : ℕ). or_below m (λ i. get_or (take (a + n - a) (drop a s)) i 0)) l
    ∙ or_ext n _ _ (λ i b. get_or-take (a + n - a) (drop a s) i 0 (omega arith) ∙ get_or-drop a s i 0)

-- ---- cells ORed, under a mask m
below_own_power : (m : ℕ) → m < 2 ^ m
below_own_power zero = omega arith
below_own_power (suc m) = omega (arith, below_own_power m, pow-succ' 2 m)

and-or : (a b m : ℕ) → bit_and (bit_or a b) m ≡ bit_or (bit_and a m) (bit_and b m)
and-or a b m =
    let fits : (x : ℕ) → bit_and x m < 2 ^ m = λ x. omega (arith, and_le_r x m, below_own_power m) in
    ext m (bit_and (bit_or a b) m) (bit_or (bit_and a m) (bit_and b m)) (fits (bit_or a b)) (or_lt m (bit_and a m) (bit_and b m) (fits a) (fits b))
    (λ i l. rw (bit-and (bit_or a b) m i, bit-or a b i, bit-or (bit_and a m) (bit_and b m) i, bit-and a m i, bit-and b m i)
    (dist (bit a i) (bit b i) (bit m i)))
  where
    dist : (x y z : Bool) → (x || y) && z ≡ (x && z) || (y && z)
    dist true y true = refl
    dist true true false = refl
    dist true false false = refl
    dist false y z = refl

pub or_masked : (n : ℕ) (f : ℕ → ℕ) (m : ℕ) → eqb (bit_and (or_below n f) m) 0 ≡ all_below n (λ k. eqb (bit_and (f k) m) 0)
unfolding or_below all_below
or_masked zero f m = ap (λ (x : ℕ). eqb x 0) (and_zero_l m)
or_masked (suc n) f m =
    ap (λ (x : ℕ). eqb x 0) (and-or (or_below n f) (f n) m) ∙ or-zero (bit_and (or_below n f) m) (bit_and (f n) m)
    ∙ and_comm (eqb (bit_and (or_below n f) m) 0) (eqb (bit_and (f n) m) 0) ∙ ap (λ x. eqb (bit_and (f n) m) 0 && x) (or_masked n f m)
