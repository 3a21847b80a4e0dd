-- Chains over words: what the tests of `Rattle.delegation.proofs.Folds` come to at windows of two, at chunks, and as `any`.
use mathlib.Core.Path.{◌≡◌, refl, sym, ap, ap₂, ◌∙◌}
use mathlib.Core.Bool.{Bool, true, false, not, ◌&&◌, ◌||◌, and_assoc}
use mathlib.Core.List.{List, [], ◌∷◌, ◌++◌}
use Prim.Native.Nat.{ℕ, zero, suc, ◌*◌}
use native.Mathlib.Omega.{arith}
use native.Mathlib.Nat.{zero-mul}
use Rattle.delegation.proofs.Chunks.{drop_chunk}
use Rattle.delegation.proofs.Folds.{Ran, Tests, all_yielded}
use lib.ListN.{length, get_or, take, drop, take-append-drop}
use lib.Dec.{eqb, ltb}
use denote.Param.Members.{Mut}
use denote.Ref.{Bor}
use Rattle.std.specs.Iterator.{AlwaysYields}
use Rattle.std.specs.List.{list_any}
use Rattle.std.specs.Simd.{first_chunks}
use Rattle.std.specs.Slice.Iter.{windows_rest, windows_size, windows_steps}
use Rattle.std.specs.declared.slice.Windows.{Windows}
use Rattle.bits.specs.Sets.{any, all}
use Rattle.delegation.specs.Loans.{rising}
use Rattle.model.proofs.Invariant.{eqb_sym}
use Rattle.delegation.proofs.Rising.{rising-next, rising-short}

-- no word fails, where some would: the same of `any`
pub any-none : {A : Type 0} (p : A → Bool) (xs : List A) → not (all (λ x. not (p x)) xs) ≡ any p xs
unfolding any all
any-none p [] = refl
any-none p (x ∷ xs) = go (p x) ∙ ap (λ b. p x || b) (any-none p xs)
  where
    go : (b : Bool) → not (not b && all (λ x. not (p x)) xs) ≡ b || not (all (λ x. not (p x)) xs)
    go true = refl
    go false = refl

-- the library's test of membership
pub any-contains : (x : ℕ) (xs : List ℕ) → list_any (λ y. eqb y x) xs ≡ any (eqb x) xs
unfolding any
any-contains x [] = refl
any-contains x (y ∷ xs) = ap₂ ◌||◌ (eqb_sym y x) (any-contains x xs)

-- ---- two neighbours at a time
pairs : List ℕ → List (List ℕ)
pairs [] = []
pairs (x ∷ []) = []
pairs (x ∷ y ∷ ys) = (x ∷ y ∷ []) ∷ pairs (y ∷ ys)

abbrev pub pair_rises : List ℕ → Bool
pair_rises w = ltb (get_or w 0 0) (get_or w 1 0)

pairs_yielded : (s : Windows ℕ) (xs : List ℕ) → windows_rest s ≡ xs → windows_size s ≡ 2
    → AlwaysYields windows_steps (λ (w : Bor (List ℕ)). w.now) s (pairs xs)
unfolding pairs
pairs_yielded s [] e z = λ w t k. absurd (omega (arith, k.1.0, z, ap length e))
pairs_yielded s (x ∷ []) e z = λ w t k. absurd (omega (arith, k.1.0, z, ap length e))
pairs_yielded s (x ∷ y ∷ ys) e z = (
  λ t k. absurd (omega (arith, k.1.0, z, ap length e)),
  λ w t k. (k.1.1 ∙ rw (z, e), pairs_yielded t (y ∷ ys) (k.1.2 ∙ rw e) (k.0 ∙ z)),
)

pairs-rising : (xs : List ℕ) → all pair_rises (pairs xs) ≡ rising xs
unfolding all pairs
pairs-rising [] = sym (rising-short [] (omega arith))
pairs-rising (x ∷ []) = sym (rising-short (x ∷ []) (omega arith))
pairs-rising (x ∷ y ∷ ys) = ap (λ b. ltb x y && b) (pairs-rising (y ∷ ys)) ∙ sym (rising-next (x ∷ y ∷ ys) 0 (omega arith))

pub rising_fold : {F : Type 0} (g : Mut F (Bool × (Bor (List ℕ) × Unit {0})) Bool) (f : F) (s : Windows ℕ) (xs : List ℕ) (r : Bool)
    → Ran {A = List ℕ} pair_rises g (λ b. b) f windows_steps s true r → windows_rest s ≡ xs → windows_size s ≡ 2
    → Tests {A = List ℕ} pair_rises g (λ b. b) f → r ≡ rising xs
rising_fold g f s xs r ran e z turn =
    all_yielded pair_rises g (λ b. b) f windows_steps s (pairs xs) true r (pairs_yielded s xs e z) turn ran ∙ pairs-rising xs

-- ---- words by chunks of the same length
all-append : (p : ℕ → Bool) (xs ys : List ℕ) → all p (xs ++ ys) ≡ (all p xs && all p ys)
unfolding all
all-append p [] ys = refl
all-append p (x ∷ xs) ys = ap (λ b. p x && b) (all-append p xs ys) ∙ sym (and_assoc (p x) (all p xs) (all p ys))

pub chunks-all : (p : ℕ → Bool) (n k : ℕ) (xs : List ℕ) → all (all p) (first_chunks n k xs) && all p (drop (k * n) xs) ≡ all p xs
unfolding all
chunks-all p n zero xs = ap (λ (m : ℕ). all p (drop m xs)) (zero-mul n)
chunks-all p n (suc k) xs =
    ap (λ b. (all p (take n xs) && all (all p) (first_chunks n k (drop n xs))) && b) (ap (all p) (sym (drop_chunk n k xs)))
    ∙ and_assoc (all p (take n xs)) (all (all p) (first_chunks n k (drop n xs))) (all p (drop (k * n) (drop n xs)))
    ∙ ap (λ b. all p (take n xs) && b) (chunks-all p n k (drop n xs))
    ∙ sym (all-append p (take n xs) (drop n xs)) ∙ ap (all p) (take-append-drop n xs)
