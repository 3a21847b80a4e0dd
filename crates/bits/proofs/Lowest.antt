-- The lowest bit of a number, and the bits of numbers made of parts.
use mathlib.Core.Path.{◌≡◌, refl, sym, ap, ◌∙◌}
use mathlib.Core.Bool.{true, cond, false≢true}
use mathlib.Core.Logic.{◌⊎◌, inl, inr}
use Prim.Native.Nat.{ℕ, suc, zero, ◌+◌, ◌-◌, ◌*◌, ◌/◌, ◌%◌, ◌^◌, ◌<◌}
use native.Mathlib.Omega.{arith}
use native.Mathlib.Nat.{pow-succ', mod-lt, div-add-mod', div-div-eq-div-mul}
use borrow.Author.Tests.{eqb-true, eqb-false, ltb-true, lt-ltb, le-ltb, ltb-false}
use lib.Dec.{eqb, ltb}
use lib.Bits.{bit_and, and_step, and_self, block_half, block_odd}
use lib.Count.{count_trailing_zeros, under}
use lib.Pow.{pow_pos, pow-add}
use Rattle.bits.specs.Bits.{bit, without_bit}
use Rattle.bits.proofs.Sets.{iff, by_cases}
use Rattle.bits.proofs.Bits.{bit-zero, bit-suc, bit_high}

-- ---- the lowest bit of a number
lowest : (d t n : ℕ) → n % 2 ≡ d → d < 2 → (bit (n / 2) t ≡ true) ⊎ (d ≡ 1) → bit n (under d t) ≡ true
lowest zero t n e l (inl h) = bit-suc n t ∙ h
lowest zero t n e l (inr h) = absurd (omega arith)
lowest (suc zero) t n e l h = bit-zero n ∙ rw e
lowest (suc (suc d)) t n e l h = absurd (omega arith)

pub trailing_bit : (k n : ℕ) → 0 < n → n < 2 ^ k → bit n (count_trailing_zeros k n) ≡ true
unfolding count_trailing_zeros
trailing_bit zero n p h = absurd (omega arith)
trailing_bit (suc k) n p h =
    lowest (n % 2) (count_trailing_zeros k (n / 2)) n refl (omega arith)
    (by_cases (eqb (n % 2) 0) (λ t. let z = eqb-true (n % 2) 0 t in
    inl (trailing_bit k (n / 2) (omega arith) (omega (arith, pow-succ' 2 k))))
    (λ t. let z = eqb-false (n % 2) 0 t in inr (odd (n % 2) (omega arith) z)))
  where
    odd : (d : ℕ) → d < 2 → (d ≡ 0 → ⊥) → d ≡ 1
    odd zero l h = absurd (h refl)
    odd (suc zero) l h = refl
    odd (suc (suc d)) l h = absurd (omega arith)

pub trailing_lt : (k n : ℕ) → 0 < n → n < 2 ^ k → count_trailing_zeros k n < k
trailing_lt k n p h =
    by_cases (ltb (count_trailing_zeros k n) k) (λ t. ltb-true (count_trailing_zeros k n) k t)
    (λ t. absurd (false≢true (sym (bit_high k n (count_trailing_zeros k n) h (ltb-false (count_trailing_zeros k n) k t)) ∙ trailing_bit k n p h)))

-- `n & n - 1`
and_less : (d k n : ℕ) → n % 2 ≡ d → 0 < n → (d ≡ 0 → bit_and (n / 2) (n / 2 - 1) + 2 ^ count_trailing_zeros k (n / 2) ≡ n / 2)
    → bit_and n (n - 1) + 2 ^ under d (count_trailing_zeros k (n / 2)) ≡ n
and_less zero k n e p h =
    let a : (n - 1) / 2 ≡ n / 2 - 1 = omega arith in
    let b : (n - 1) % 2 ≡ 1 = omega arith in
    let s : bit_and n (n - 1) ≡ bit_and (n / 2) (n / 2 - 1) * 2 + 0 = rw (a, b, e) at (and_step n (n - 1)) in
    omega (arith, h refl, pow-succ' 2 (count_trailing_zeros k (n / 2)))
and_less (suc zero) k n e p h =
    let a : (n - 1) / 2 ≡ n / 2 = omega arith in
    let b : (n - 1) % 2 ≡ 0 = omega arith in
    let s : bit_and n (n - 1) ≡ n / 2 * 2 + 0 = rw (a, b, e, and_self (n / 2)) at (and_step n (n - 1)) in
    omega arith
and_less (suc (suc d)) k n e p h = absurd (omega arith)

less_lowest : (k n : ℕ) → 0 < n → n < 2 ^ k → bit_and n (n - 1) + 2 ^ count_trailing_zeros k n ≡ n
unfolding count_trailing_zeros
less_lowest zero n p h = absurd (omega arith)
less_lowest (suc k) n p h = and_less (n % 2) k n refl p (λ z. less_lowest k (n / 2) (omega arith) (omega (arith, pow-succ' 2 k)))

pub without-lowest : (k n : ℕ) → 0 < n → n < 2 ^ k → (bit_and n (n - 1) ≡ without_bit n (count_trailing_zeros k n)) × (bit_and n (n - 1) < n)
unfolding without_bit
without-lowest k n p h =
    (rw (trailing_bit k n p h) (omega (arith, less_lowest k n p h)), omega (arith, less_lowest k n p h, pow_pos (count_trailing_zeros k n)))

-- ---- bits of two numbers side by side
pub bit_block : (k a x i : ℕ) → x < 2 ^ k → bit (a * 2 ^ k + x) i ≡ cond (ltb i k) (bit x i) (bit a (i - k))
bit_block zero a x i h =
    let e : a * 2 ^ 0 + x ≡ a = omega arith in
    let d : i ≡ i - 0 = omega arith in
    rw (le-ltb i 0 (omega arith), e, ← d)
bit_block (suc k) a x zero h =
    rw (lt-ltb 0 (suc k) (omega arith)) (bit-zero (a * 2 ^ suc k + x) ∙ ap (λ (y : ℕ). eqb y 1) (block_odd a k x) ∙ sym (bit-zero x))
bit_block (suc k) a x (suc i) h =
    let d : suc i - suc k ≡ i - k = omega arith in
    let l : ltb (suc i) (suc k) ≡ ltb i k = iff _ _ (λ z. lt-ltb i k (omega (arith, ltb-true (suc i) (suc k) z)))
    (λ z. lt-ltb (suc i) (suc k) (omega (arith, ltb-true i k z))) in
    rw (l, d, bit-suc x i)
    (bit-suc (a * 2 ^ suc k + x) i ∙ ap (λ (y : ℕ). bit y i) (block_half a k x) ∙ bit_block k a (x / 2) i (omega (arith, pow-succ' 2 k)))

-- and of a part of one: w bits from bit j on
pub bit-part : (n j w i : ℕ) → i < w → bit (n / 2 ^ j % 2 ^ w) i ≡ bit n (j + i)
bit-part n j w i l =
    let m = n / 2 ^ j in
    sym (bit_block w (m / 2 ^ w) (m % 2 ^ w) i (mod-lt m (pow_pos w)) ∙ rw (lt-ltb i w l))
    ∙ ap (λ (x : ℕ). bit x i) (div-add-mod' m (2 ^ w)) ∙ shifted
  where
    shifted : bit (n / 2 ^ j) i ≡ bit n (j + i)
    shifted = unfold bit in (ap (λ (x : ℕ). eqb (x % 2) 1) (div-div-eq-div-mul n (2 ^ j) (2 ^ i) ∙ ap (λ (x : ℕ). n / x) (sym (pow-add 2 j i))))
