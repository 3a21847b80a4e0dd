-- Laws of decimal digits.
use Prim.Native.Nat.{ℕ, zero, suc, ◌+◌, ◌-◌, ◌*◌, ◌/◌, ◌%◌, ◌^◌, ◌≤◌, ◌<◌}
use native.Mathlib.Omega.{arith}
use native.Mathlib.Nat.{add-zero, pow-suc}
use mathlib.Core.Path.{◌≡◌, refl, ap, ◌∙◌}
use mathlib.Core.List.{List, [], ◌∷◌, ◌++◌}
use lib.ListN.{length, set, length-append}
use lib.Seq.{sets}
use lib.Dec.{ltb}
use borrow.Author.Tests.{lt-ltb, le-ltb, ltb-true, ltb-false}
use Rattle.lines.specs.Show.{shown, shown_in}
use Rattle.lines.specs.Line.{value_from, value_of}
use Rattle.bits.proofs.Sets.{by_cases}

-- any number of steps above n is enough
enough : (f g n : ℕ) → n < f → n < g → shown_in f n ≡ shown_in g n
enough zero g n h k = absurd (omega arith)
enough (suc f) zero n h k = absurd (omega arith)
enough (suc f) (suc g) n h k =
    by_cases (ltb n 10)
    (λ q. rw q refl)
    (λ q.
    let ge = ltb-false n 10 q in
    rw q (ap (λ (l : List ℕ). l ++ ((48 + n % 10) ∷ [])) (enough f g (n / 10) (omega arith) (omega arith))))

pub shown-one : (n : ℕ) → n < 10 → shown n ≡ (48 + n) ∷ []
unfolding shown
shown-one n h = rw (lt-ltb _ _ h) refl

pub shown_more : (n : ℕ) → 10 ≤ n → shown n ≡ shown (n / 10) ++ ((48 + n % 10) ∷ [])
unfolding shown
shown_more n h =
    rw (le-ltb _ _ h) (ap (λ (l : List ℕ). l ++ ((48 + n % 10) ∷ [])) (enough n (suc (n / 10)) (n / 10) (omega arith) (omega arith)))

pub shown_more_length : (n : ℕ) → 10 ≤ n → length (shown n) ≡ length (shown (n / 10)) + 1
shown_more_length n h = ap length (shown_more n h) ∙ length-append (shown (n / 10)) ((48 + n % 10) ∷ [])

-- a store right after a run of stores
pub sets_snoc : (l : List ℕ) (i : ℕ) (vs : List ℕ) (v : ℕ) → set (sets l i vs) (i + length vs) v ≡ sets l i (vs ++ (v ∷ []))
sets_snoc l i [] v = rw (add-zero i) refl
sets_snoc l i (a ∷ vs) v =
    let e : i + suc (length vs) ≡ suc i + length vs = omega arith in
    rw e (sets_snoc (set l i a) (suc i) vs v)

-- at most k digits below 10 ^ k
pub shown-width : (k n : ℕ) → n < 10 ^ suc k → length (shown n) ≤ suc k
shown-width zero n h = rw (shown-one n h) (omega arith)
shown-width (suc k) n h =
    by_cases (ltb n 10)
    (λ q. rw (shown-one n (ltb-true n 10 q)) (omega arith))
    (λ q.
    let ge = ltb-false n 10 q in
    let p : 10 ^ suc (suc k) ≡ 10 ^ suc k * 10 = pow-suc 10 (suc k) in
    omega (arith, shown_more_length n ge, shown-width k (n / 10) (omega arith)))

pub value-append : (v : ℕ) (a b : List ℕ) → value_from v (a ++ b) ≡ value_from (value_from v a) b
value-append v [] b = refl
value-append v (x ∷ a) b = value-append (v * 10 + (x - 48)) a b

-- reading back what was written
value_in : (f n : ℕ) → n < f → value_from 0 (shown_in f n) ≡ n
value_in zero n h = absurd (omega arith)
value_in (suc f) n h =
    by_cases (ltb n 10)
    (λ q. rw q (omega arith))
    (λ q.
    let ge = ltb-false n 10 q in
    rw (q, value-append 0 (shown_in f (n / 10)) ((48 + n % 10) ∷ []), value_in f (n / 10) (omega arith)) (omega arith))

pub shown-value : (n : ℕ) → value_of (shown n) ≡ n
unfolding shown
shown-value n = value_in (suc n) n (omega arith)

-- at most 20 digits of 64 bits, 10 of 32, 3 of 8
pub shown_64 : (n : ℕ) → n < 18446744073709551616 → length (shown n) ≤ 20
shown_64 n h = shown-width 19 n (omega arith)

pub shown_32 : (n : ℕ) → n < 4294967296 → length (shown n) ≤ 10
shown_32 n h = shown-width 9 n (omega arith)

pub shown_8 : (n : ℕ) → n < 256 → length (shown n) ≤ 3
shown_8 n h = shown-width 2 n (omega arith)
