-- Laws of the bits of a number, for any width w, and what the machine's operations on w bits are.
use mathlib.Core.Path.{◌≡◌, refl, sym, ap, ap₂, ◌∙◌}
use mathlib.Core.Bool.{Bool, true, false, not, ◌&&◌, ◌||◌, cond, and-true, or-true, or-false}
use Prim.Native.Nat.{ℕ, zero, suc, ◌+◌, ◌-◌, ◌*◌, ◌/◌, ◌%◌, ◌^◌, ◌≤◌, ◌<◌, min, max}
use native.Mathlib.Nat.{div-one, pow-succ', div-div-eq-div-mul, zero-div, div-eq_of_lt, div-eq-sub-div, one-mul}
use native.Mathlib.Numerals.{one-add, add-one}
use borrow.Author.Tests.{eq-eqb, ne_eqb, eqb-true, eqb-false, ltb-true, ltb-false}
use native.Mathlib.Omega.{arith}
use lib.Dec.{eqb, eqb-zero-suc, eqb-suc-zero, eqb-suc-suc, lit<, ltb}
use lib.Bits.{bit_and, bit_or, and_step, or_step, and_shr, or_shr, or_lt, and_le_l, or_add_and, and_high, and_mask, and_le_r}
use lib.Arith.{digits_div, digits_mod}
use lib.Pow.{pow_pos, pow-lt, shl_exact}
use Rattle.bits.specs.Sets.{all_below}
use Rattle.bits.specs.Bits.{bit, with_bit, without_bit, of_bits}
use Rattle.bits.proofs.Sets.{iff, by_cases}
use Rattle.bits.proofs.Indexed.{below_intro, below_elim}

-- ---- a bit of a half
shr_suc : (n i : ℕ) → n / 2 ^ suc i ≡ n / 2 / 2 ^ i
shr_suc n i = rw (pow-succ' 2 i) (sym (div-div-eq-div-mul n 2 (2 ^ i)))

pub bit-zero : (n : ℕ) → bit n 0 ≡ eqb (n % 2) 1
unfolding bit
bit-zero n = rw (div-one n)

pub bit-suc : (n i : ℕ) → bit n (suc i) ≡ bit (n / 2) i
unfolding bit
bit-suc n i = rw (shr_suc n i)

-- ---- two numbers below 2 ^ w with equal bits are equal
odd_eq : (a b : ℕ) → a < 2 → b < 2 → eqb a 1 ≡ eqb b 1 → a ≡ b
odd_eq zero zero h k e = refl
odd_eq zero (suc zero) h k e = let z : false ≡ true = e in cc
odd_eq (suc zero) zero h k e = let z : true ≡ false = e in cc
odd_eq (suc zero) (suc zero) h k e = refl
odd_eq zero (suc (suc b)) h k e = absurd (omega arith)
odd_eq (suc zero) (suc (suc b)) h k e = absurd (omega arith)
odd_eq (suc (suc a)) b h k e = absurd (omega arith)

half_lt : (w n : ℕ) → n < 2 ^ suc w → n / 2 < 2 ^ w
half_lt w n h = omega (arith, pow-succ' 2 w)

pub ext : (w a b : ℕ) → a < 2 ^ w → b < 2 ^ w → ((i : ℕ) → i < w → bit a i ≡ bit b i) → a ≡ b
ext zero a b h k e = omega arith
ext (suc w) a b h k e =
    let p : a / 2 ≡ b / 2 = ext w (a / 2) (b / 2) (half_lt w a h) (half_lt w b k)
    (λ i l. sym (bit-suc a i) ∙ e (suc i) (omega arith) ∙ bit-suc b i) in
    let q : a % 2 ≡ b % 2 = odd_eq (a % 2) (b % 2) (omega arith) (omega arith) (sym (bit-zero a) ∙ e 0 (omega arith) ∙ bit-zero b) in
    omega arith

-- ---- no number has a bit past its width
pub bit_of_zero : (i : ℕ) → bit 0 i ≡ false
unfolding bit
bit_of_zero i = rw (zero-div (2 ^ i))

pub bit_high : (w n i : ℕ) → n < 2 ^ w → w ≤ i → bit n i ≡ false
bit_high zero n i h l = ap (λ (x : ℕ). bit x i) (let z : n ≡ 0 = omega arith in z) ∙ bit_of_zero i
bit_high (suc w) n zero h l = absurd (omega arith)
bit_high (suc w) n (suc i) h l = bit-suc n i ∙ bit_high w (n / 2) i (half_lt w n h) (omega arith)

-- the highest bit
pub bit_top : (n j : ℕ) → 2 ^ j ≤ n → n < 2 ^ suc j → bit n j ≡ true
bit_top n zero l h = bit-zero n ∙ eq-eqb (n % 2) 1 (omega arith)
bit_top n (suc j) l h = bit-suc n j ∙ bit_top (n / 2) j (omega (arith, pow-succ' 2 j)) (half_lt (suc j) n h)

-- a number is 0 exactly when it has no bit
pub zero-of_bits : (w n : ℕ) → n < 2 ^ w → ((i : ℕ) → i < w → bit n i ≡ false) → n ≡ 0
zero-of_bits w n h e = ext w n 0 h (pow_pos w) (λ i l. e i l ∙ sym (bit_of_zero i))

-- ---- the number of given bits
digit : (b : Bool) → cond b 1 0 < 2
digit true = omega arith
digit false = omega arith

digit-eqb : (b : Bool) → eqb (cond b 1 0) 1 ≡ b
digit-eqb true = refl
digit-eqb false = refl

pub of_bits_lt : (w : ℕ) (f : ℕ → Bool) → of_bits w f < 2 ^ w
unfolding of_bits
of_bits_lt zero f = omega arith
of_bits_lt (suc w) f = omega (arith, of_bits_lt w (λ i. f (suc i)), digit (f 0), pow-succ' 2 w)

pub bit-of_bits : (w : ℕ) (f : ℕ → Bool) (i : ℕ) → i < w → bit (of_bits w f) i ≡ f i
unfolding of_bits
bit-of_bits zero f i l = absurd (omega arith)
bit-of_bits (suc w) f zero l = bit-zero _ ∙ ap (λ (x : ℕ). eqb x 1) (digits_mod (of_bits w (λ i. f (suc i))) (digit (f 0))) ∙ digit-eqb (f 0)
bit-of_bits (suc w) f (suc i) l =
    bit-suc _ i ∙ ap (λ (x : ℕ). bit x i) (digits_div (of_bits w (λ i. f (suc i))) (digit (f 0)))
    ∙ bit-of_bits w (λ i. f (suc i)) i (omega arith)

pub of_bits_cong : (w : ℕ) (f g : ℕ → Bool) → ((i : ℕ) → i < w → f i ≡ g i) → of_bits w f ≡ of_bits w g
unfolding of_bits
of_bits_cong zero f g e = refl
of_bits_cong (suc w) f g e =
    ap₂ (λ (x y : ℕ). x * 2 + y) (of_bits_cong w (λ i. f (suc i)) (λ i. g (suc i)) (λ i l. e (suc i) (omega arith)))
    (ap (λ b. cond b 1 0) (e 0 (omega arith)))

-- ---- or and and, bit by bit
or-low : (a b : ℕ) → bit_or a b % 2 ≡ max (a % 2) (b % 2)
or-low a b = omega (arith, or_step a b)

and_low : (a b : ℕ) → bit_and a b % 2 ≡ min (a % 2) (b % 2)
and_low a b = omega (arith, and_step a b)

max-eqb : (a b : ℕ) → a < 2 → b < 2 → eqb (max a b) 1 ≡ eqb a 1 || eqb b 1
max-eqb zero zero h k = refl
max-eqb zero (suc zero) h k = refl
max-eqb (suc zero) zero h k = refl
max-eqb (suc zero) (suc zero) h k = refl
max-eqb zero (suc (suc b)) h k = absurd (omega arith)
max-eqb (suc zero) (suc (suc b)) h k = absurd (omega arith)
max-eqb (suc (suc a)) b h k = absurd (omega arith)

min-eqb : (a b : ℕ) → a < 2 → b < 2 → eqb (min a b) 1 ≡ eqb a 1 && eqb b 1
min-eqb zero zero h k = refl
min-eqb zero (suc zero) h k = refl
min-eqb (suc zero) zero h k = refl
min-eqb (suc zero) (suc zero) h k = refl
min-eqb zero (suc (suc b)) h k = absurd (omega arith)
min-eqb (suc zero) (suc (suc b)) h k = absurd (omega arith)
min-eqb (suc (suc a)) b h k = absurd (omega arith)

pub bit-or : (a b i : ℕ) → bit (bit_or a b) i ≡ bit a i || bit b i
unfolding bit
bit-or a b i = rw (or_shr a b i, or-low (a / 2 ^ i) (b / 2 ^ i)) (max-eqb (a / 2 ^ i % 2) (b / 2 ^ i % 2) (omega arith) (omega arith))

pub bit-and : (a b i : ℕ) → bit (bit_and a b) i ≡ bit a i && bit b i
unfolding bit
bit-and a b i = rw (and_shr a b i, and_low (a / 2 ^ i) (b / 2 ^ i)) (min-eqb (a / 2 ^ i % 2) (b / 2 ^ i % 2) (omega arith) (omega arith))

-- ---- one bit, and all but one
pub bit_pow : (j i : ℕ) → bit (2 ^ j) i ≡ eqb i j
unfolding bit
bit_pow zero zero = refl
bit_pow zero (suc i) = bit-suc 1 i ∙ bit_of_zero i ∙ sym (eqb-suc-zero i)
bit_pow (suc j) zero =
    bit-zero (2 ^ suc j) ∙ ap (λ (x : ℕ). eqb x 1) (let z : 2 ^ suc j % 2 ≡ 0 = omega (arith, pow-succ' 2 j) in z) ∙ sym (eqb-zero-suc j)
bit_pow (suc j) (suc i) =
    bit-suc (2 ^ suc j) i ∙ ap (λ (x : ℕ). bit x i) (let z : 2 ^ suc j / 2 ≡ 2 ^ j = omega (arith, pow-succ' 2 j) in z) ∙ bit_pow j i
    ∙ sym (eqb-suc-suc i j)

flip_eqb : (a b : ℕ) → a + b ≡ 1 → eqb a 1 ≡ not (eqb b 1)
flip_eqb zero zero e = absurd (omega arith)
flip_eqb zero (suc zero) e = refl
flip_eqb zero (suc (suc b)) e = absurd (omega arith)
flip_eqb (suc zero) zero e = refl
flip_eqb (suc zero) (suc b) e = absurd (omega arith)
flip_eqb (suc (suc a)) b e = absurd (omega arith)

-- the complement within w bits
pub bit_complement : (w n i : ℕ) → n < 2 ^ w → i < w → bit (2 ^ w - 1 - n) i ≡ not (bit n i)
bit_complement zero n i h l = absurd (omega arith)
bit_complement (suc w) n zero h l =
    bit-zero _ ∙ flip_eqb ((2 ^ suc w - 1 - n) % 2) (n % 2) (omega (arith, pow-succ' 2 w)) ∙ ap not (sym (bit-zero n))
bit_complement (suc w) n (suc i) h l =
    bit-suc _ i ∙ ap (λ (x : ℕ). bit x i) (let z : (2 ^ suc w - 1 - n) / 2 ≡ 2 ^ w - 1 - n / 2 = omega (arith, pow-succ' 2 w) in z)
    ∙ bit_complement w (n / 2) i (half_lt w n h) (omega arith) ∙ ap not (sym (bit-suc n i))

-- `n | 1 << j` has bit j too, and `n & !(1 << j)` lacks it
pub bit-set : (n j i : ℕ) → bit (bit_or n (2 ^ j)) i ≡ bit n i || eqb i j
bit-set n j i = simp (bit-or, bit_pow)

pub bit_clear : (w n j i : ℕ) → 2 ^ j < 2 ^ w → i < w → bit (bit_and n (2 ^ w - 1 - 2 ^ j)) i ≡ bit n i && not (eqb i j)
bit_clear w n j i h l = simp (bit-and, bit_complement, bit_pow)

-- a number other than 0 has a bit
pub some_bit : (w n : ℕ) → n < 2 ^ w → (n ≡ 0 → ⊥) → (i : ℕ) × (i < w) × (bit n i ≡ true)
some_bit zero n h e = absurd (e (omega arith))
some_bit (suc w) n h e = go (bit n 0) refl (λ k. some_bit w (n / 2) (half_lt w n h) k)
  where
    go : (b : Bool) → bit n 0 ≡ b → ((n / 2 ≡ 0 → ⊥) → (i : ℕ) × (i < w) × (bit (n / 2) i ≡ true)) → (i : ℕ) × (i < suc w)
        × (bit n i ≡ true)
    go true t k = (0, omega arith, t)
    go false t k =
        let odd : n % 2 ≡ 0 = odd_eq (n % 2) 0 (omega arith) (omega arith) (sym (bit-zero n) ∙ t) in
        let f = k (λ z. e (omega arith)) in
        (suc f.0, omega (arith, f.1), bit-suc n f.0 ∙ f.2)

-- ---- one bit put in or taken out
and_pow : (n i : ℕ) → bit_and n (2 ^ i) ≡ n / 2 ^ i % 2 * 2 ^ i
and_pow n i = rw (double i) at (and_high n 1 i)
  where
    double : (i : ℕ) → 2 ^ (1 + i) - 2 ^ i ≡ 2 ^ i
    double i = rw (one-add i, pow-succ' 2 i) (omega arith)

pub or_pow : (n i : ℕ) → bit_or n (2 ^ i) ≡ with_bit n i
unfolding with_bit bit
or_pow n i = go (n / 2 ^ i % 2) (2 ^ i) (bit_or n (2 ^ i)) (omega arith) (rw (and_pow n i) at (or_add_and n (2 ^ i)))
  where
    go : (x p o : ℕ) → x < 2 → o + x * p ≡ n + p → o ≡ cond (eqb x 1) n (n + p)
    go zero p o l e = omega arith
    go (suc zero) p o l e = omega arith
    go (suc (suc x)) p o l e = absurd (omega arith)

pub bit_with : (n j i : ℕ) → bit (with_bit n j) i ≡ bit n i || eqb i j
bit_with n j i = rw (← (or_pow n j)) (bit-set n j i)

pub with_lt : (w n j : ℕ) → n < 2 ^ w → j < w → with_bit n j < 2 ^ w
with_lt w n j h l = rw (← (or_pow n j)) (or_lt w n (2 ^ j) h (pow-lt l))

-- a number that has bit j, without it and then with it again
back : (n j : ℕ) → bit n j ≡ true → (bit (n - 2 ^ j) j ≡ false) × (with_bit (n - 2 ^ j) j ≡ n)
unfolding bit with_bit
back n j e =
    let o : n / 2 ^ j % 2 ≡ 1 = eqb-true (n / 2 ^ j % 2) 1 e in
    let l : 2 ^ j ≤ n = by_cases (ltb n (2 ^ j)) (λ t. absurd (omega (arith, div-eq_of_lt (ltb-true n (2 ^ j) t))))
    (λ t. ltb-false n (2 ^ j) t) in
    let d = div-eq-sub-div (pow_pos j) l in
    let z : eqb ((n - 2 ^ j) / 2 ^ j % 2) 1 ≡ false = ne_eqb ((n - 2 ^ j) / 2 ^ j % 2) 1 (λ q. omega arith) in
    (z, rw z (omega arith))

pub bit-without : (n j i : ℕ) → bit (without_bit n j) i ≡ bit n i && not (eqb i j)
unfolding without_bit
bit-without n j i = go (bit n j) refl
  where
    -- with bit j absent, and with it present in n
    absent : (x : ℕ) → bit x j ≡ false → bit x i ≡ bit x i && not (eqb i j)
    absent x e = by_cases (eqb i j) (λ t. rw (eqb-true i j t, e)) (λ t. rw t (sym (and-true (bit x i))))

    restored : (a b : Bool) → a ≡ a && not b → (a || b) && not b ≡ a
    restored true false e = refl
    restored true true e = sym e
    restored false false e = refl
    restored false true e = refl

    go : (b : Bool) → bit n j ≡ b → bit (cond b (n - 2 ^ j) n) i ≡ bit n i && not (eqb i j)
    go false e = absent n e
    go true e =
        let r = back n j e in
        let q : bit n i ≡ bit (n - 2 ^ j) i || eqb i j = ap (λ (x : ℕ). bit x i) (sym r.1) ∙ bit_with (n - 2 ^ j) j i in
        sym (rw q (restored (bit (n - 2 ^ j) i) (eqb i j) (absent (n - 2 ^ j) r.0)))

pub without_le : (n j : ℕ) → without_bit n j ≤ n
unfolding without_bit
without_le n j = go (bit n j)
  where
    go : (b : Bool) → cond b (n - 2 ^ j) n ≤ n
    go true = omega arith
    go false = omega arith

pub without_lt : (w n j : ℕ) → n < 2 ^ w → without_bit n j < 2 ^ w
without_lt w n j h = omega (arith, without_le n j)

-- ---- what the machine computes on w bits
one_shl : (w i : ℕ) → i < w → 1 * 2 ^ i % 2 ^ w ≡ 2 ^ i
one_shl w i l = shl_exact 1 i w (lit< tt) (omega arith) ∙ one-mul (2 ^ i)

-- `(n >> i) & 1 == 1`
pub machine_has : (n i : ℕ) → eqb (bit_and (n / 2 ^ i) 1) 1 ≡ bit n i
unfolding bit
machine_has n i = ap (λ (x : ℕ). eqb x 1) (and_mask (n / 2 ^ i) 1)

-- `n | 1 << i`
pub machine_with : (w n i : ℕ) → i < w → bit_or n (1 * 2 ^ i % 2 ^ w) ≡ with_bit n i
machine_with w n i l = ap (λ (x : ℕ). bit_or n x) (one_shl w i l) ∙ or_pow n i

-- `n & !(1 << i)`
pub machine_without : (w n i : ℕ) → n < 2 ^ w → i < w → bit_and n (2 ^ w - 1 - 1 * 2 ^ i % 2 ^ w) ≡ without_bit n i
machine_without w n i h l =
    ap (λ (x : ℕ). bit_and n (2 ^ w - 1 - x)) (one_shl w i l)
    ∙ ext w _ _ (omega (arith, and_le_l n (2 ^ w - 1 - 2 ^ i))) (without_lt w n i h)
    (λ j b. bit_clear w n i j (pow-lt l) b ∙ sym (bit-without n i j))

-- the bits below n of a number, then its bit n
pub bits_more : (n : ℕ) (f : ℕ → Bool) → cond (f n) (with_bit (of_bits n f) n) (of_bits n f) ≡ of_bits (n + 1) f
bits_more n f =
    rw (add-one n)
    (ext (suc n) _ (of_bits (suc n) f) (go_lt (f n)) (of_bits_lt (suc n) f)
    (λ i l. go (f n) refl i l ∙ sym (bit-of_bits (suc n) f i l)))
  where
    low : of_bits n f < 2 ^ suc n
    low = omega (arith, of_bits_lt n f, pow-succ' 2 n)

    go_lt : (b : Bool) → cond b (with_bit (of_bits n f) n) (of_bits n f) < 2 ^ suc n
    go_lt true = with_lt (suc n) (of_bits n f) n low (omega arith)
    go_lt false = low

    old : (i : ℕ) → i < suc n → bit (of_bits n f) i ≡ cond (eqb i n) false (f i)
    old i l =
        by_cases (eqb i n) (λ t. rw t (bit_high n (of_bits n f) i (of_bits_lt n f) (omega (arith, eqb-true i n t))))
        (λ t. rw t (bit-of_bits n f i (omega (arith, eqb-false i n t))))

    go : (b : Bool) → f n ≡ b → (i : ℕ) → i < suc n → bit (cond b (with_bit (of_bits n f) n) (of_bits n f)) i ≡ f i
    go true e i l =
        bit_with (of_bits n f) n i
        ∙ by_cases (eqb i n) (λ t. rw (t, eqb-true i n t, e) (or-true (bit (of_bits n f) n))) (λ t. rw (old i l, t) (or-false (f i)))
    go false e i l = old i l ∙ by_cases (eqb i n) (λ t. rw (t, eqb-true i n t, e)) (λ t. rw t)

-- a turn of a loop that gathers them: y is x with bit i too where v holds
pub bits_step : (x y n i : ℕ) (v : Bool) (f : ℕ → Bool) → x ≡ of_bits n f → i ≡ n → v ≡ f n → y ≡ cond v (with_bit x i) x
    → y ≡ of_bits (n + 1) f
bits_step x y n i v f e d b q = q ∙ rw (e, d, b) (bits_more n f)

-- `a & !b`
pub bit_outside : (w a b i : ℕ) → b < 2 ^ w → i < w → bit (bit_and a (2 ^ w - 1 - b)) i ≡ bit a i && not (bit b i)
bit_outside w a b i k l = bit-and a (2 ^ w - 1 - b) i ∙ ap (λ x. bit a i && x) (bit_complement w b i k l)

-- each bit of a is one of b
unfoldable pub within : ℕ → ℕ → ℕ → Bool
within w a b = all_below w (λ i. not (bit a i) || bit b i)

-- `a & !b == 0`
pub machine_outside : (w a b : ℕ) → b < 2 ^ w → eqb (bit_and a (2 ^ w - 1 - b)) 0 ≡ within w a b
unfolding within
machine_outside w a b k =
    iff (eqb (bit_and a (2 ^ w - 1 - b)) 0) (all_below w (λ i. not (bit a i) || bit b i))
    (λ t. below_intro w _ (λ i l. covers (bit a i) (bit b i)
    (sym (bit_outside w a b i k l) ∙ ap (λ (x : ℕ). bit x i) (eqb-true (bit_and a (2 ^ w - 1 - b)) 0 t) ∙ bit_of_zero i)))
    (λ t. eq-eqb _ 0 (zero-of_bits w _ (omega (arith, and_le_r a (2 ^ w - 1 - b)))
    (λ i l. bit_outside w a b i k l ∙ covered (bit a i) (bit b i) (below_elim w _ t i l))))
  where
    covers : (x y : Bool) → x && not y ≡ false → not x || y ≡ true
    covers true true e = refl
    covers true false e = sym e
    covers false y e = refl

    covered : (x y : Bool) → not x || y ≡ true → x && not y ≡ false
    covered true y e = ap not e
    covered false y e = refl
