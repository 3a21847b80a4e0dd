-- Laws of lists by index, of the greatest value below a bound, and of tests of every number below a bound.
use mathlib.Core.Path.{◌≡◌, refl, sym, ap, ap₂, ◌∙◌, subst}
use mathlib.Core.List.{List, [], ◌∷◌, ◌++◌}
use mathlib.Core.Bool.{Bool, true, false, not, ◌&&◌, ◌||◌, cond, false≢true, and_assoc, or-and_distrib_right}
use mathlib.Core.Logic.{◌⊎◌, ⊎_elim, by_cases}
use Prim.Native.Nat.{ℕ, zero, suc, ◌+◌, ◌*◌, ◌≤◌, ◌<◌, max}
use native.Mathlib.Omega.{arith}
use native.Mathlib.Nat.{eq-or-lt_of_le, le_of_suc-le-suc, add-zero, add-suc, mul-zero, mul-suc}
use native.Mathlib.Numerals.{add-one}
use native.Mathlib.Decide.{dec_lt}
use lib.Dec.{ltb}
use borrow.Author.Tests.{lt-ltb, le-ltb}
use lib.ListN.{length, get_or, take, drop}
use lib.Seq.{ext_get_or, drop-cons, take-suc}
use Rattle.bits.specs.Sets.{any, tabulate, all_below, most, first_at, any_below, all, keep}
use Rattle.bits.proofs.Sets.{fst, snd, both, or_left, or_right, either, iff, and_swap, keep_append}

pub length-tabulate : {A : Type 0} (n : ℕ) (f : ℕ → A) → length (tabulate n f) ≡ n
unfolding tabulate
length-tabulate zero f = refl
length-tabulate (suc n) f = ap suc (length-tabulate n (λ (i : ℕ). f (suc i)))

pub get_d_tabulate : {A : Type 0} (n : ℕ) (f : ℕ → A) (i : ℕ) (d : A) → i < n → get_or (tabulate n f) i d ≡ f i
unfolding tabulate
get_d_tabulate zero f i d h = absurd (omega arith)
get_d_tabulate (suc n) f zero d h = refl
get_d_tabulate (suc n) f (suc i) d h = get_d_tabulate n (λ (j : ℕ). f (suc j)) i d (le_of_suc-le-suc h)

pub tabulate_ext : {A : Type 0} (n : ℕ) (f : ℕ → A) (d : A) (r : List A) → length r ≡ n → ((i : ℕ) → i < n → get_or r i d ≡ f i)
    → r ≡ tabulate n f
tabulate_ext n f d r e h =
    ext_get_or d r (tabulate n f) (e ∙ sym (length-tabulate n f))
    (λ i l. h i (subst (λ (k : ℕ). i < k) e l) ∙ sym (get_d_tabulate n f i d (subst (λ (k : ℕ). i < k) e l)))

-- below suc n is n, or below n
pub split : {i n : ℕ} → i < suc n → (i ≡ n) ⊎ (i < n)
split h = eq-or-lt_of_le (le_of_suc-le-suc h)

pub most_above : (f : ℕ → ℕ) (n i : ℕ) → i < n → f i ≤ most f n
unfolding most
most_above f zero i h = absurd (omega arith)
most_above f (suc n) i h =
    ⊎_elim (λ (e : i ≡ n). subst (λ (k : ℕ). f k ≤ max (most f n) (f n)) (sym e) (omega arith))
    (λ (l : i < n). let ih = most_above f n i l in omega arith) (split h)

pub first-most : (f : ℕ → ℕ) (n : ℕ) → 0 < most f n → (first_at f n < n) × (f (first_at f n) ≡ most f n)
unfolding most first_at
first-most f zero h = absurd (omega arith)
first-most f (suc n) h =
    by_cases (dec_lt (most f n) (f n)) (λ l. rw (lt-ltb _ _ l) (omega arith, omega arith))
    (λ l. rw (le-ltb (most f n) (f n) (omega arith)) (let ih = first-most f n (omega arith) in (omega arith, omega arith)))

-- before it f is less
pub first_before : (f : ℕ → ℕ) (n i : ℕ) → i < first_at f n → f i < most f n
unfolding most first_at
first_before f zero i h = absurd (omega arith)
first_before f (suc n) i h =
    by_cases (dec_lt (most f n) (f n))
    (λ l. let k : i < n = rw (lt-ltb _ _ l) at h in omega (arith, most_above f n i k))
    (λ l. let k : i < first_at f n = rw (le-ltb (most f n) (f n) (omega arith)) at h in omega (arith, first_before f n i k))

pub first_le : (f : ℕ → ℕ) (n : ℕ) → first_at f (suc n) ≤ n
unfolding first_at
first_le f n = below (ltb (most f n) (f n)) (rest n)
  where
    below : (b : Bool) → first_at f n ≤ n → cond b n (first_at f n) ≤ n
    below true h = omega arith
    below false h = h

    rest : (m : ℕ) → first_at f m ≤ m
    rest zero = omega arith
    rest (suc m) = go (ltb (most f m) (f m)) (rest m)
      where
        go : (b : Bool) → first_at f m ≤ m → cond b m (first_at f m) ≤ suc m
        go true h = omega arith
        go false h = omega arith

-- ---- some element, by its place
module _ {A : Type 0} (p : A → Bool) (d : A) where
  pub any_at : (xs : List A) (i : ℕ) → i < length xs → p (get_or xs i d) ≡ true → any p xs ≡ true
  unfolding any
  any_at [] i h e = absurd (omega arith)
  any_at (x ∷ xs) zero h e = or_left (p x) (any p xs) e
  any_at (x ∷ xs) (suc i) h e = or_right (p x) (any p xs) (any_at xs i (le_of_suc-le-suc h) e)

  pub find_at : (xs : List A) → any p xs ≡ true → (i : ℕ) × (i < length xs) × (p (get_or xs i d) ≡ true)
  unfolding any
  find_at [] h = absurd (false≢true h)
  find_at (x ∷ xs) h =
      either (p x) (any p xs) h (λ e. (0, omega arith, e)) (λ e. let f = find_at xs e in (suc f.0, omega (arith, f.1), f.2))

-- ---- a list from place i on: a turn of a loop that goes through it
module _ {A : Type 0} (p : A → Bool) (s : List A) (i : ℕ) (d : A) where
  pub all-next : i < length s → all p (drop i s) ≡ p (get_or s i d) && all p (drop (i + 1) s)
  unfolding all
  all-next h = rw (drop-cons s i d, add-one i)

  pub none-next : i < length s → not (any p (drop i s)) ≡ not (p (get_or s i d)) && not (any p (drop (i + 1) s))
  unfolding any
  none-next h = rw (drop-cons s i d, add-one i) (neither (p (get_or s i d)) (any p (drop (suc i) s)))
    where
      neither : (a b : Bool) → not (a || b) ≡ not a && not b
      neither true b = refl
      neither false b = refl

  pub keep-next : i < length s → keep p (drop i s) ≡ cond (p (get_or s i d)) (get_or s i d ∷ keep p (drop (i + 1) s)) (keep p (drop (i + 1) s))
  unfolding keep
  keep-next h = rw (drop-cons s i d, add-one i)

  -- the list up to place i, with the next element
  pub keep_more : i < length s → keep p (take (i + 1) s) ≡ keep p (take i s) ++ cond (p (get_or s i d)) (get_or s i d ∷ []) []
  unfolding keep
  keep_more h = rw (add-one i, take-suc s i d h) (keep_append p (take i s) (get_or s i d ∷ []))

-- ---- every number below n
pub below_intro : (n : ℕ) (f : ℕ → Bool) → ((k : ℕ) → k < n → f k ≡ true) → all_below n f ≡ true
unfolding all_below
below_intro zero f e = refl
below_intro (suc n) f e = both (e n (omega arith)) (below_intro n f (λ k h. e k (omega arith)))

pub below_elim : (n : ℕ) (f : ℕ → Bool) → all_below n f ≡ true → (k : ℕ) → k < n → f k ≡ true
unfolding all_below
below_elim zero f h k l = absurd (omega arith)
below_elim (suc n) f h k l =
    ⊎_elim (λ (e : k ≡ n). ap f e ∙ fst (f n) (all_below n f) h) (λ (b : k < n). below_elim n f (snd (f n) (all_below n f) h) k b) (split l)

pub below_none : (f : ℕ → Bool) → all_below 0 f ≡ true
unfolding all_below
below_none f = refl

pub below_suc : (n : ℕ) (f : ℕ → Bool) → all_below (n + 1) f ≡ f n && all_below n f
unfolding all_below
below_suc n f = rw (add-one n)

-- a turn of a loop that tests one number after the other, and its early end
pub below_step : (n : ℕ) (f : ℕ → Bool) → all_below n f ≡ true → f n ≡ true → all_below (n + 1) f ≡ true
below_step n f h e = below_suc n f ∙ both e h

pub below_stop : (n : ℕ) (f : ℕ → Bool) (i : ℕ) → i < n → f i ≡ false → all_below n f ≡ false
below_stop n f i l e = iff (all_below n f) false (λ t. sym e ∙ below_elim n f t i l) (λ t. absurd (false≢true t))

-- a number that fails
pub below_fails : (n : ℕ) (f : ℕ → Bool) → all_below n f ≡ false → (k : ℕ) × (k < n) × (f k ≡ false)
unfolding all_below
below_fails zero f e = absurd (false≢true (sym e))
below_fails (suc n) f e = go (f n) refl e (λ q. below_fails n f q)
  where
    go : (b : Bool) → f n ≡ b → b && all_below n f ≡ false → (all_below n f ≡ false → (k : ℕ) × (k < n) × (f k ≡ false)) → (k : ℕ)
        × (k < suc n) × (f k ≡ false)
    go false t q r = (n, omega arith, t)
    go true t q r = let s = r q in (s.0, omega (arith, s.1), s.2)

pub below_ext : (n : ℕ) (f g : ℕ → Bool) → ((k : ℕ) → k < n → f k ≡ g k) → all_below n f ≡ all_below n g
unfolding all_below
below_ext zero f g e = refl
below_ext (suc n) f g e = ap₂ ◌&&◌ (e n (omega arith)) (below_ext n f g (λ k l. e k (omega arith)))

-- a test that is the same for every number comes out
pub below_or : (n : ℕ) (f : ℕ → Bool) (b : Bool) → all_below n (λ k. f k || b) ≡ all_below n f || b
unfolding all_below
below_or zero f b = refl
below_or (suc n) f b = ap (λ x. (f n || b) && x) (below_or n f b) ∙ sym (or-and_distrib_right (f n) (all_below n f) b)

pub below-and : (n : ℕ) (f g : ℕ → Bool) → all_below n (λ k. f k && g k) ≡ all_below n f && all_below n g
unfolding all_below
below-and zero f g = refl
below-and (suc n) f g = ap (λ x. (f n && g n) && x) (below-and n f g) ∙ and_swap (f n) (g n) (all_below n f) (all_below n g)

-- one bound as two, one within the other
pub below-add : (n k : ℕ) (f : ℕ → Bool) → all_below (n + k) f ≡ all_below k (λ j. f (n + j)) && all_below n f
unfolding all_below
below-add n zero f = rw (add-zero n)
below-add n (suc k) f =
    rw (add-suc n k) (ap (λ x. f (n + k) && x) (below-add n k f) ∙ sym (and_assoc (f (n + k)) (all_below k (λ j. f (n + j))) (all_below n f)))

pub below_nested : (b a : ℕ) (f : ℕ → Bool) → all_below (b * a) f ≡ all_below a (λ i. all_below b (λ j. f (b * i + j)))
unfolding all_below
below_nested b zero f = rw (mul-zero b)
below_nested b (suc a) f = rw (mul-suc b a) (below-add (b * a) b f ∙ ap (λ x. all_below b (λ j. f (b * a + j)) && x) (below_nested b a f))

-- two bounds in the other order
pub below_swap : (n m : ℕ) (f : ℕ → ℕ → Bool) → all_below n (λ i. all_below m (f i)) ≡ all_below m (λ j. all_below n (λ i. f i j))
below_swap n m f =
    iff _ _ (λ t. below_intro m _ (λ j u. below_intro n _ (λ i v. below_elim m _ (below_elim n _ t i v) j u)))
    (λ t. below_intro n _ (λ i v. below_intro m _ (λ j u. below_elim n _ (below_elim m _ t j u) i v)))

-- ---- some number below n
pub some_intro : (n : ℕ) (f : ℕ → Bool) (k : ℕ) → k < n → f k ≡ true → any_below n f ≡ true
unfolding any_below
some_intro zero f k l e = absurd (omega arith)
some_intro (suc n) f k l e =
    ⊎_elim (λ (q : k ≡ n). or_left (f n) (any_below n f) (ap f (sym q) ∙ e))
    (λ (b : k < n). or_right (f n) (any_below n f) (some_intro n f k b e)) (split l)

pub some_elim : (n : ℕ) (f : ℕ → Bool) → any_below n f ≡ true → (k : ℕ) × (k < n) × (f k ≡ true)
unfolding any_below
some_elim zero f e = absurd (false≢true e)
some_elim (suc n) f e =
    either (f n) (any_below n f) e (λ t. (n, omega arith, t)) (λ t. let r = some_elim n f t in (r.0, omega (arith, r.1), r.2))

pub some_suc : (n : ℕ) (f : ℕ → Bool) → any_below (n + 1) f ≡ f n || any_below n f
unfolding any_below
some_suc n f = rw (add-one n)

pub some_ext : (n : ℕ) (f g : ℕ → Bool) → ((k : ℕ) → k < n → f k ≡ g k) → any_below n f ≡ any_below n g
unfolding any_below
some_ext zero f g e = refl
some_ext (suc n) f g e = ap₂ ◌||◌ (e n (omega arith)) (some_ext n f g (λ k l. e k (omega arith)))
