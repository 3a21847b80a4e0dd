-- Laws of the tests on lists, as equations between Bools.
use mathlib.Core.Path.{◌≡◌, refl, sym, ap, ap₂, ◌∙◌}
use mathlib.Core.Bool.{Bool, true, false, not, ◌&&◌, ◌||◌, cond, false≢true, and-false}
use mathlib.Core.List.{List, [], ◌∷◌, ◌++◌, map}
use Prim.Native.Nat.{ℕ, suc, ◌+◌, ◌≤◌}
use native.Mathlib.Omega.{arith}
use borrow.Author.Tests.{eqb-true, eq-eqb}
use lib.Dec.{eqb}
use lib.ListN.{length, length-append}
use Rattle.bits.specs.Sets.{any, all, keep, count, add}

-- two tests that pass together are equal
pub iff : (a b : Bool) → (a ≡ true → b ≡ true) → (b ≡ true → a ≡ true) → a ≡ b
iff true b f g = sym (f refl)
iff false true f g = g refl
iff false false f g = refl

pub fst : (a b : Bool) → a && b ≡ true → a ≡ true
fst true b e = refl
fst false b e = e

pub snd : (a b : Bool) → a && b ≡ true → b ≡ true
snd true b e = e
snd false b e = absurd (false≢true e)

pub both : {a b : Bool} → a ≡ true → b ≡ true → a && b ≡ true
both p q = rw (p, q)

pub and_swap : (a b c d : Bool) → (a && b) && (c && d) ≡ (a && c) && (b && d)
and_swap true true c d = refl
and_swap true false true d = refl
and_swap true false false d = refl
and_swap false b c d = refl

pub or_left : (a b : Bool) → a ≡ true → a || b ≡ true
or_left a b p = rw p

pub or_right : (a b : Bool) → b ≡ true → a || b ≡ true
or_right true b p = refl
or_right false b p = p

pub either : {X : Type 0} (a b : Bool) → a || b ≡ true → (a ≡ true → X) → (b ≡ true → X) → X
either true b e f g = f refl
either false b e f g = g e

-- where neither passes
pub neither : (a b : Bool) → a || b ≡ false → (a ≡ false) × (b ≡ false)
neither true b e = absurd (false≢true (sym e))
neither false b e = (refl, e)

-- a test that decides another: by its two values
pub by_cases : {X : Type 0} (b : Bool) → (b ≡ true → X) → (b ≡ false → X) → X
by_cases true f g = f refl
by_cases false f g = g refl

module _ {A : Type 0} where
  -- one that passes, of a list all of which pass q
  pub find : (p q : A → Bool) (xs : List A) → all q xs ≡ true → any p xs ≡ true → (x : A) × (q x ≡ true) × (p x ≡ true)
  unfolding any all keep add
  find p q [] h e = absurd (false≢true e)
  find p q (x ∷ xs) h e =
      by_cases (p x) (λ t. (x, fst (q x) (all q xs) h, t))
      (λ f. find p q xs (snd (q x) (all q xs) h) (ap (λ b. b || any p xs) (sym f) ∙ e))

  -- on a list all of which pass q, tests that agree wherever q does
  pub any_cong : (p p' q : A → Bool) (xs : List A) → all q xs ≡ true → ((x : A) → q x ≡ true → p x ≡ p' x) → any p xs ≡ any p' xs
  unfolding any all keep add
  any_cong p p' q [] h e = refl
  any_cong p p' q (x ∷ xs) h e = ap₂ ◌||◌ (e x (fst (q x) (all q xs) h)) (any_cong p p' q xs (snd (q x) (all q xs) h) e)

  pub all_mono : (q q' : A → Bool) (xs : List A) → all q xs ≡ true → ((x : A) → q x ≡ true → q' x ≡ true) → all q' xs ≡ true
  unfolding any all keep add
  all_mono q q' [] h e = refl
  all_mono q q' (x ∷ xs) h e = both (e x (fst (q x) (all q xs) h)) (all_mono q q' xs (snd (q x) (all q xs) h) e)

  -- a weaker test passes too
  pub any_mono : (p p' q : A → Bool) (xs : List A) → all q xs ≡ true → ((x : A) → q x ≡ true → p x ≡ true → p' x ≡ true) → any p xs ≡ true
      → any p' xs ≡ true
  unfolding any all keep add
  any_mono p p' q [] h e t = t
  any_mono p p' q (x ∷ xs) h e t =
      either (p x) (any p xs) t (λ k. or_left (p' x) (any p' xs) (e x (fst (q x) (all q xs) h) k))
      (λ k. or_right (p' x) (any p' xs) (any_mono p p' q xs (snd (q x) (all q xs) h) e k))

  pub any-and : (p : A → Bool) (b : Bool) (xs : List A) → any (λ x. p x && b) xs ≡ any p xs && b
  unfolding any all keep add
  any-and p b [] = refl
  any-and p b (x ∷ xs) = rw (any-and p b xs) (dist (p x) (any p xs) b)
    where
      dist : (a c b : Bool) → (a && b) || (c && b) ≡ (a || c) && b
      dist true true true = refl
      dist true true false = refl
      dist true false true = refl
      dist true false false = refl
      dist false c b = refl

  pub any-keep : (p f : A → Bool) (xs : List A) → any p (keep f xs) ≡ any (λ x. f x && p x) xs
  unfolding any all keep add
  any-keep p f [] = refl
  any-keep p f (x ∷ xs) = go (f x) (any-keep p f xs)
    where
      go : (b : Bool) → any p (keep f xs) ≡ any (λ x. f x && p x) xs
          → any p (cond b (x ∷ keep f xs) (keep f xs)) ≡ (b && p x) || any (λ x. f x && p x) xs
      go true e = ap (λ b. p x || b) e
      go false e = e

  -- what is kept passes both tests
  pub all_keep : (q f : A → Bool) (xs : List A) → all q xs ≡ true → all (λ x. q x && f x) (keep f xs) ≡ true
  unfolding any all keep add
  all_keep q f [] h = refl
  all_keep q f (x ∷ xs) h = go (f x) refl (all_keep q f xs (snd (q x) (all q xs) h))
    where
      go : (b : Bool) → f x ≡ b → all (λ x. q x && f x) (keep f xs) ≡ true
          → all (λ x. q x && f x) (cond b (x ∷ keep f xs) (keep f xs)) ≡ true
      go true e k = both (both (fst (q x) (all q xs) h) e) k
      go false e k = k

  pub any_same : (p : A → Bool) (same : A → A → Bool) → ((x y : A) → same x y ≡ true → x ≡ y) → (x : A) (xs : List A)
      → any (same x) xs ≡ true → p x ≡ true → any p xs ≡ true
  unfolding any all keep add
  any_same p same law x [] h t = h
  any_same p same law x (y ∷ ys) h t =
      by_cases (same x y) (λ e. or_left (p y) (any p ys) (ap p (sym (law x y e)) ∙ t))
      (λ f. or_right (p y) (any p ys) (any_same p same law x ys (ap (λ b. b || any (same x) ys) (sym f) ∙ h) t))

  pub any-add : (p : A → Bool) (same : A → A → Bool) → ((x y : A) → same x y ≡ true → x ≡ y) → (x : A) (xs : List A)
      → any p (add same x xs) ≡ p x || any p xs
  unfolding any all keep add
  any-add p same law x xs = go (any (same x) xs) refl (p x) refl
    where
      go : (b : Bool) → any (same x) xs ≡ b → (c : Bool) → p x ≡ c → any p (cond b xs (x ∷ xs)) ≡ c || any p xs
      go true e true t = any_same p same law x xs e t
      go true e false t = refl
      go false e c t = ap (λ b. b || any p xs) t

  pub all-add : (q : A → Bool) (same : A → A → Bool) (x : A) (xs : List A) → q x ≡ true → all q xs ≡ true → all q (add same x xs) ≡ true
  unfolding any all keep add
  all-add q same x xs h k = go (any (same x) xs)
    where
      go : (b : Bool) → all q (cond b xs (x ∷ xs)) ≡ true
      go true = k
      go false = both h k

  -- one that passes, and stands in the list
  pub found : (p : A → Bool) (same : A → A → Bool) → ((x : A) → same x x ≡ true) → (xs : List A) → any p xs ≡ true
      → (x : A) × (p x ≡ true) × (any (same x) xs ≡ true)
  unfolding any all keep add
  found p same law [] h = absurd (false≢true h)
  found p same law (x ∷ xs) h =
      by_cases (p x) (λ t. (x, t, or_left (same x x) (any (same x) xs) (law x)))
      (λ f. let k = found p same law xs (ap (λ b. b || any p xs) (sym f) ∙ h) in
      (k.0, k.1, or_right (same k.0 x) (any (same k.0) xs) k.2))

  pub any-or : (p q : A → Bool) (xs : List A) → any (λ x. p x || q x) xs ≡ any p xs || any q xs
  unfolding any all keep add
  any-or p q [] = refl
  any-or p q (x ∷ xs) = rw (any-or p q xs) (swap (p x) (q x) (any p xs) (any q xs))
    where
      swap : (a b c d : Bool) → (a || b) || (c || d) ≡ (a || c) || (b || d)
      swap true b c d = refl
      swap false true true d = refl
      swap false true false d = refl
      swap false false c d = refl

  -- what is kept, where the test kept by is b wherever p passes
  pub any_kept : (p f q : A → Bool) (b : Bool) (xs : List A) → all q xs ≡ true → ((x : A) → q x ≡ true → p x ≡ true → f x ≡ b)
      → any p (keep f xs) ≡ any p xs && b
  any_kept p f q b xs h e =
      any-keep p f xs ∙ any_cong (λ x. f x && p x) (λ x. p x && b) q xs h (λ x k. swap (f x) (p x) (e x k)) ∙ any-and p b xs
    where
      swap : (a c : Bool) → (c ≡ true → a ≡ b) → a && c ≡ c && b
      swap true true e = e refl
      swap false true e = e refl
      swap true false e = refl
      swap false false e = refl

  -- tests that say the same of every element keep the same
  pub keep_cong : (f f' q : A → Bool) (xs : List A) → all q xs ≡ true → ((x : A) → q x ≡ true → f x ≡ f' x) → keep f xs ≡ keep f' xs
  unfolding any all keep add
  keep_cong f f' q [] h e = refl
  keep_cong f f' q (x ∷ xs) h e =
      ap₂ (λ (b : Bool) (ys : List A). cond b (x ∷ ys) ys) (e x (fst (q x) (all q xs) h)) (keep_cong f f' q xs (snd (q x) (all q xs) h) e)

  -- a test that every element passes keeps all
  pub keep_all : (f : A → Bool) (xs : List A) → all f xs ≡ true → keep f xs ≡ xs
  unfolding any all keep add
  keep_all f [] h = refl
  keep_all f (x ∷ xs) h = rw (fst (f x) (all f xs) h) (ap (λ (ys : List A). x ∷ ys) (keep_all f xs (snd (f x) (all f xs) h)))

  -- as many are kept as pass
  pub count-keep : (f : A → Bool) (xs : List A) → count f xs ≡ length (keep f xs)
  unfolding keep count
  count-keep f [] = refl
  count-keep f (x ∷ xs) = go (f x) (count-keep f xs)
    where
      go : (b : Bool) → count f xs ≡ length (keep f xs)
          → cond b (suc (count f xs)) (count f xs) ≡ length (cond b (x ∷ keep f xs) (keep f xs))
      go true e = ap suc e
      go false e = e

  -- those that pass and those that are kept because they do not are all
  pub count_kept : (p : A → Bool) (xs : List A) → length xs ≡ length (keep (λ x. not (p x)) xs) + count p xs
  unfolding keep count
  count_kept p [] = refl
  count_kept p (x ∷ xs) = go (p x) (count_kept p xs)
    where
      go : (b : Bool) → length xs ≡ length (keep (λ x. not (p x)) xs) + count p xs
          → suc (length xs)
          ≡ length (cond (not b) (x ∷ keep (λ x. not (p x)) xs) (keep (λ x. not (p x)) xs)) + cond b (suc (count p xs)) (count p xs)
      go true e = omega (arith, e)
      go false e = omega (arith, e)

  -- none passes where no such one was kept
  pub count_gone : (p f : A → Bool) (xs : List A) → ((x : A) → p x ≡ true → f x ≡ false) → count p (keep f xs) ≡ 0
  unfolding keep count
  count_gone p f [] h = refl
  count_gone p f (x ∷ xs) h = go (f x) (p x) (h x) (count_gone p f xs h) refl
    where
      go : (b c : Bool) → (c ≡ true → b ≡ false) → count p (keep f xs) ≡ 0 → p x ≡ c → count p (cond b (x ∷ keep f xs) (keep f xs)) ≡ 0
      go false c n e q = e
      go true false n e q = rw q e
      go true true n e q = absurd (false≢true (sym (n refl)))

  -- what is kept of what was kept passes both tests
  pub keep-keep : (f g : A → Bool) (xs : List A) → keep f (keep g xs) ≡ keep (λ x. g x && f x) xs
  unfolding any all keep add
  keep-keep f g [] = refl
  keep-keep f g (x ∷ xs) = go (g x) (keep-keep f g xs)
    where
      go : (b : Bool) → keep f (keep g xs) ≡ keep (λ x. g x && f x) xs
          → keep f (cond b (x ∷ keep g xs) (keep g xs)) ≡ cond (b && f x) (x ∷ keep (λ x. g x && f x) xs) (keep (λ x. g x && f x) xs)
      go true e = ap (λ (ys : List A). cond (f x) (x ∷ ys) ys) e
      go false e = e

  -- a test does not see the order
  pub any_order : (same : A → A → Bool) → ((x y : A) → same x y ≡ true → x ≡ y) → ((x : A) → same x x ≡ true) → (q : A → Bool)
      → (xs ys : List A)
      → ((x : A) → any (same x) xs ≡ any (same x) ys) → any q xs ≡ any q ys
  any_order same law self q xs ys e =
      iff (any q xs) (any q ys) (half xs ys (λ x h. sym (e x) ∙ h)) (half ys xs (λ x h. e x ∙ h))
    where
      half : (xs ys : List A) → ((x : A) → any (same x) xs ≡ true → any (same x) ys ≡ true) → any q xs ≡ true → any q ys ≡ true
      half xs ys e t = let f = found q same self xs t in any_same q same law f.0 ys (e f.0 f.2) f.1

  -- each element stands in its list
  pub all_in : (same : A → A → Bool) → ((x : A) → same x x ≡ true) → (xs : List A) → all (λ x. any (same x) xs) xs ≡ true
  unfolding any all keep add
  all_in same law [] = refl
  all_in same law (x ∷ xs) =
      both (or_left (same x x) (any (same x) xs) (law x))
      (all_mono (λ y. any (same y) xs) _ xs (all_in same law xs) (λ y h. or_right (same y x) (any (same y) xs) h))

  pub all-and : (p q : A → Bool) (xs : List A) → all (λ x. p x && q x) xs ≡ all p xs && all q xs
  unfolding any all keep add
  all-and p q [] = refl
  all-and p q (x ∷ xs) = rw (all-and p q xs) (and_swap (p x) (q x) (all p xs) (all q xs))

  pub all_true : (xs : List A) → all (λ x. true) xs ≡ true
  unfolding any all keep add
  all_true [] = refl
  all_true (x ∷ xs) = all_true xs

  pub any_fewer : (p f : A → Bool) (xs : List A) → any p (keep f xs) ≡ true → any p xs ≡ true
  any_fewer p f xs h =
      any_mono (λ x. f x && p x) p (λ x. true) xs (all_true xs) (λ x k e. snd (f x) (p x) e) (sym (any-keep p f xs) ∙ h)

  pub any_less : (p f : A → Bool) (xs : List A) → any p xs ≡ false → any p (keep f xs) ≡ false
  any_less p f xs h = by_cases (any p (keep f xs)) (λ t. absurd (false≢true (sym h ∙ any_fewer p f xs t))) (λ t. t)

  -- none is left where the test keeps none of them
  pub any_gone : (p f : A → Bool) (xs : List A) → ((x : A) → p x ≡ true → f x ≡ false) → any p (keep f xs) ≡ false
  any_gone p f xs h = any_kept p f (λ x. true) false xs (all_true xs) (λ x k e. h x e) ∙ and-false (any p xs)

  -- of two lists, one behind the other
  pub keep_append : (f : A → Bool) (xs ys : List A) → keep f (xs ++ ys) ≡ keep f xs ++ keep f ys
  unfolding keep
  keep_append f [] ys = refl
  keep_append f (x ∷ xs) ys = go (f x) (keep_append f xs ys)
    where
      go : (b : Bool) → keep f (xs ++ ys) ≡ keep f xs ++ keep f ys
          → cond b (x ∷ keep f (xs ++ ys)) (keep f (xs ++ ys)) ≡ cond b (x ∷ keep f xs) (keep f xs) ++ keep f ys
      go true e = ap (◌∷◌ x) e
      go false e = e

  pub count-append : (f : A → Bool) (xs ys : List A) → count f (xs ++ ys) ≡ count f xs + count f ys
  count-append f xs ys = rw (count-keep f (xs ++ ys), count-keep f xs, count-keep f ys, keep_append f xs ys, length-append)

  pub all_append : (q : A → Bool) (xs ys : List A) → all q xs ≡ true → all q ys ≡ true → all q (xs ++ ys) ≡ true
  unfolding all
  all_append q [] ys h k = k
  all_append q (x ∷ xs) ys h k = both (fst (q x) (all q xs) h) (all_append q xs ys (snd (q x) (all q xs) h) k)

  pub length-keep : (f : A → Bool) (xs : List A) → length (keep f xs) ≤ length xs
  unfolding keep
  length-keep f [] = omega arith
  length-keep f (x ∷ xs) = go (f x) (length-keep f xs)
    where
      go : (b : Bool) → length (keep f xs) ≤ length xs → length (cond b (x ∷ keep f xs) (keep f xs)) ≤ suc (length xs)
      go true k = omega arith
      go false k = omega arith

  pub none : (xs : List A) → any (λ x. false) xs ≡ false
  unfolding any all keep add
  none [] = refl
  none (x ∷ xs) = none xs

pub any_swap : {A B : Type 0} (p : A → B → Bool) (xs : List A) (ys : List B)
    → any (λ x. any (p x) ys) xs ≡ any (λ y. any (λ x. p x y) xs) ys
unfolding any all keep add
any_swap p [] ys = sym (none ys)
any_swap p (x ∷ xs) ys = ap (λ b. any (p x) ys || b) (any_swap p xs ys) ∙ sym (any-or (p x) (λ y. any (λ x. p x y) xs) ys)

pub any-map : {A B : Type 0} (p : B → Bool) (f : A → B) (xs : List A) → any p (map f xs) ≡ any (λ x. p (f x)) xs
unfolding any
any-map p f [] = refl
any-map p f (x ∷ xs) = ap (λ b. p (f x) || b) (any-map p f xs)

-- ---- sets of numbers, as lists in any order
pub eqb_self : (n : ℕ) → eqb n n ≡ true
eqb_self n = eq-eqb n n refl

-- every element passes
pub all_from : (q : ℕ → Bool) (xs : List ℕ) → ((i : ℕ) → any (eqb i) xs ≡ true → q i ≡ true) → all q xs ≡ true
unfolding any all
all_from q [] h = refl
all_from q (x ∷ xs) h =
    both (h x (or_left (eqb x x) (any (eqb x) xs) (eqb_self x))) (all_from q xs (λ i e. h i (or_right (eqb i x) (any (eqb i) xs) e)))

-- and each of them does
pub all-at : (q : ℕ → Bool) (xs : List ℕ) → all q xs ≡ true → (i : ℕ) → any (eqb i) xs ≡ true → q i ≡ true
all-at q xs h i e = let f = find (eqb i) q xs h e in ap q (eqb-true i f.0 f.2) ∙ f.1
