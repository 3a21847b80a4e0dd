-- A loop that picks what passes a test: each element is written, and the place moves on where it passes.
use mathlib.Core.Path.{◌≡◌, refl, sym, ap, ◌∙◌}
use mathlib.Core.Bool.{Bool, true, false, cond, false≢true}
use mathlib.Core.List.{List, [], ◌∷◌, ◌++◌, append-nil, append_assoc}
use Prim.Native.Nat.{ℕ, zero, suc, ◌+◌, ◌≤◌, ◌<◌}
use native.Mathlib.Omega.{arith}
use native.Mathlib.Nat.{add-zero}
use native.Mathlib.Numerals.{add-one}
use lib.ListN.{length, get_or, set, take}
use lib.Seq.{take-suc-set, take-set-le}
use Rattle.std.specs.List.{sum_by}
use Rattle.std.proofs.lemmas.List.Sums.{sum_by-cons}
use Rattle.bits.specs.Sets.{keep}
use Rattle.bits.proofs.Indexed.{keep_more}

-- two tests that agree on the elements keep the same
pub keep_same : (s t : ℕ → Bool) (xs : List ℕ) → ((i : ℕ) → i < length xs → s (get_or xs i 0) ≡ t (get_or xs i 0)) → keep s xs ≡ keep t xs
unfolding keep
keep_same s t [] h = refl
keep_same s t (x ∷ xs) h =
    go (s x) (t x) (h 0 (omega arith)) (keep_same s t xs (λ i l. h (suc i) (omega arith)))
  where
    go : (a b : Bool) → a ≡ b → keep s xs ≡ keep t xs → cond a (x ∷ keep s xs) (keep s xs) ≡ cond b (x ∷ keep t xs) (keep t xs)
    go true true e k = ap (◌∷◌ x) k
    go false false e k = k
    go true false e k = absurd (false≢true (sym e))
    go false true e k = absurd (false≢true e)

-- one element more
module _ (t : ℕ → Bool) (ls : List ℕ) (i : ℕ) (h : i < length ls) where
  abbrev x : ℕ
  x = get_or ls i 0

  -- which doesn't pass
  pub pass_more : (n : ℕ) → n ≡ cond (t (get_or ls i 0)) 1 0 → n ≡ 0 → keep t (take (i + 1) ls) ≡ keep t (take i ls)
  pass_more n e z = keep_more t ls i 0 h ∙ none (t x) (sym e ∙ z)
    where
      none : (b : Bool) → ◌≡◌ {A = ℕ} (cond b 1 0) 0 → keep t (take i ls) ++ cond b (x ∷ []) [] ≡ keep t (take i ls)
      none true z = absurd (omega arith)
      none false z = append-nil (keep t (take i ls))

  -- which moves the place by n, behind what was there before
  module _ (before out : List ℕ) (m : ℕ) (room : m < length out) (so_far : take m out ≡ before ++ keep t (take i ls)) where
    written : (b : Bool) → take (m + cond b 1 0) (set out m x) ≡ before ++ (keep t (take i ls) ++ cond b (x ∷ []) [])
    written true =
        ap (λ (k : ℕ). take k (set out m x)) (add-one m) ∙ take-suc-set out m x room ∙ ap (λ (l : List ℕ). l ++ (x ∷ [])) so_far
        ∙ append_assoc before (keep t (take i ls)) (x ∷ [])
    written false =
        ap (λ (k : ℕ). take k (set out m x)) (add-zero m) ∙ take-set-le m out m x (omega arith) ∙ so_far
        ∙ ap (λ (l : List ℕ). before ++ l) (sym (append-nil (keep t (take i ls))))

    pub pick_more : (n : ℕ) → n ≡ cond (t (get_or ls i 0)) 1 0 → take (m + n) (set out m (get_or ls i 0)) ≡ before ++ keep t (take (i + 1) ls)
    pick_more n e =
        ap (λ (k : ℕ). take (m + k) (set out m x)) e ∙ written (t x) ∙ ap (λ (l : List ℕ). before ++ l) (sym (keep_more t ls i 0 h))

-- elements that don't pass
pub skip : (t : ℕ → Bool) (ls : List ℕ) (a n : ℕ) → a + n ≤ length ls → ((i : ℕ) → a ≤ i → i < a + n → t (get_or ls i 0) ≡ false)
    → keep t (take (a + n) ls) ≡ keep t (take a ls)
skip t ls a zero h e = ap (λ (k : ℕ). keep t (take k ls)) (add-zero a)
skip t ls a (suc n) h e =
    let q : a + suc n ≡ a + n + 1 = omega arith in
    ap (λ (k : ℕ). keep t (take k ls)) q
    ∙ pass_more t ls (a + n) (omega arith) 0 (rw (e (a + n) (omega arith) (omega arith))) refl
    ∙ skip t ls a n (omega arith) (λ i l k. e i l (omega arith))

-- ---- none and all, by their number
pub keep_le : (t : ℕ → Bool) (xs : List ℕ) → length (keep t xs) ≤ length xs
unfolding keep
keep_le t [] = omega arith
keep_le t (x ∷ xs) = go (t x) (keep_le t xs)
  where
    go : (b : Bool) → length (keep t xs) ≤ length xs → length (cond b (x ∷ keep t xs) (keep t xs)) ≤ suc (length xs)
    go true h = omega arith
    go false h = omega arith

pub keep-none : (t : ℕ → Bool) (xs : List ℕ) → length (keep t xs) ≡ 0 → keep t xs ≡ []
keep-none t xs = go (keep t xs)
  where
    go : (ys : List ℕ) → length ys ≡ 0 → ys ≡ []
    go [] e = refl
    go (y ∷ ys) e = absurd (omega arith)

pub keep-every : (t : ℕ → Bool) (xs : List ℕ) → length xs ≤ length (keep t xs) → keep t xs ≡ xs
unfolding keep
keep-every t [] h = refl
keep-every t (x ∷ xs) h = go (t x) h (keep-every t xs)
  where
    go : (b : Bool) → suc (length xs) ≤ length (cond b (x ∷ keep t xs) (keep t xs)) → (length xs ≤ length (keep t xs) → keep t xs ≡ xs)
        → cond b (x ∷ keep t xs) (keep t xs) ≡ x ∷ xs
    go true h k = ap (◌∷◌ x) (k (omega arith))
    go false h k = absurd (omega (arith, keep_le t xs))

-- an element that passes counts 1, another 0: the sum is how many pass
pub sum-keep : (t : ℕ → Bool) (xs : List ℕ) → sum_by (λ x. cond (t x) 1 0) xs ≡ length (keep t xs)
unfolding keep
sum-keep t [] = refl
sum-keep t (y ∷ xs) = sum_by-cons (λ x. cond (t x) 1 0) y xs ∙ go (t y) (sum-keep t xs)
  where
    go : (b : Bool) → sum_by (λ x. cond (t x) 1 0) xs ≡ length (keep t xs)
        → cond b 1 0 + sum_by (λ x. cond (t x) 1 0) xs ≡ length (cond b (y ∷ keep t xs) (keep t xs))
    go true e = omega (arith, e)
    go false e = omega (arith, e)
