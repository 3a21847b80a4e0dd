-- The members of a set that is a number: they are exactly its bits, so a test of some or of each member is a test of its bits, and the
-- number is told by its members.
use mathlib.Core.Path.{◌≡◌, refl, sym, ap, ◌∙◌}
use mathlib.Core.Bool.{Bool, true, false, not, ◌&&◌, ◌||◌, false≢true, and-false, or-true}
use mathlib.Core.List.{List, [], ◌∷◌}
use Prim.Native.Nat.{ℕ, zero, suc, ◌^◌, ◌<◌}
use native.Mathlib.Omega.{arith}
use borrow.Author.Tests.{eqb-true, eq-eqb, ne_eqb, ltb-true, lt-ltb}
use lib.ListN.{length}
use lib.Dec.{eqb, ltb}
use Rattle.bits.specs.Sets.{any, all, keep, tabulate, all_below, any_below}
use Rattle.bits.specs.Bits.{bit, of_bits, members}
use Rattle.bits.proofs.Sets.{iff, by_cases, fst, snd, both, or_left, any-keep}
use Rattle.bits.proofs.Indexed.{length-tabulate, get_d_tabulate, any_at, find_at, below_intro, some_intro, some_elim}
use Rattle.bits.proofs.Bits.{ext, of_bits_lt, bit-of_bits, bit_of_zero, some_bit}

-- some of 0, .., w - 1
any_upto : (w : ℕ) (p : ℕ → Bool) → any p (tabulate w (λ (i : ℕ). i)) ≡ any_below w p
any_upto w p =
    iff _ _
    (λ t. let f = find_at p 0 (tabulate w (λ (i : ℕ). i)) t in
    let l : f.0 < w = let b = f.1 in omega (arith, length-tabulate w (λ (i : ℕ). i)) in
    some_intro w p f.0 l (ap p (sym (get_d_tabulate w (λ (i : ℕ). i) f.0 0 l)) ∙ f.2))
    (λ t. let f = some_elim w p t in
    let l : f.0 < length (tabulate w (λ (i : ℕ). i)) = let b = f.1 in omega (arith, length-tabulate w (λ (i : ℕ). i)) in
    any_at p 0 (tabulate w (λ (i : ℕ). i)) f.0 l (ap p (get_d_tabulate w (λ (i : ℕ). i) f.0 0 f.1) ∙ f.2))

-- each passes where none fails
each_passes : (p : ℕ → Bool) (is : List ℕ) → all p is ≡ not (any (λ i. not (p i)) is)
unfolding all any
each_passes p [] = refl
each_passes p (i ∷ is) = rw (each_passes p is) (go (p i) (any (λ i. not (p i)) is))
  where
    go : (a b : Bool) → a && not b ≡ not (not a || b)
    go true b = refl
    go false b = refl

none_below : (f p : ℕ → Bool) (k : ℕ) → not (any_below k (λ i. f i && not (p i))) ≡ all_below k (λ i. not (f i) || p i)
unfolding any_below all_below
none_below f p zero = refl
none_below f p (suc k) = rw (← none_below f p k) (go (f k) (p k) (any_below k (λ i. f i && not (p i))))
  where
    go : (a b c : Bool) → not ((a && not b) || c) ≡ (not a || b) && not c
    go true true c = refl
    go true false c = refl
    go false b c = refl

-- ---- lists without elements
no_element : (is : List ℕ) → ((i : ℕ) → any (eqb i) is ≡ false) → eqb (length is) 0 ≡ true
unfolding any
no_element [] f = refl
no_element (i ∷ is) f = absurd (false≢true (sym (f i) ∙ or_left (eqb i i) (any (eqb i) is) (eq-eqb i i refl)))

in_none : (is : List ℕ) (i : ℕ) → eqb (length is) 0 ≡ true → any (eqb i) is ≡ true → ⊥
unfolding any
in_none [] i t e = false≢true e
in_none (k ∷ is) i t e = false≢true (sym (ne_eqb (suc (length is)) 0 (λ z. omega arith)) ∙ t)

none_kept : (is : List ℕ) → keep (bit 0) is ≡ []
unfolding keep
none_kept [] = refl
none_kept (i ∷ is) = rw (bit_of_zero i) (none_kept is)

-- ---- the members
module _ (w n : ℕ) where
  -- some member
  pub any-members : (p : ℕ → Bool) → any p (members w n) ≡ any_below w (λ i. bit n i && p i)
  unfolding members
  any-members p = any-keep p (bit n) (tabulate w (λ (i : ℕ). i)) ∙ any_upto w (λ i. bit n i && p i)

  -- the members are the bits
  pub is_member : (i : ℕ) → any (eqb i) (members w n) ≡ ltb i w && bit n i
  is_member i =
      any-members (eqb i)
      ∙ iff _ _
      (λ t. let f = some_elim w (λ k. bit n k && eqb i k) t in
      let e : i ≡ f.0 = eqb-true i f.0 (snd (bit n f.0) (eqb i f.0) f.2) in
      rw e (both (lt-ltb f.0 w f.1) (fst (bit n f.0) (eqb i f.0) f.2)))
      (λ t. some_intro w (λ k. bit n k && eqb i k) i (ltb-true i w (fst (ltb i w) (bit n i) t))
      (both (snd (ltb i w) (bit n i) t) (eq-eqb i i refl)))

  -- each member
  pub all-members : (p : ℕ → Bool) → all p (members w n) ≡ all_below w (λ i. not (bit n i) || p i)
  all-members p = each_passes p (members w n) ∙ ap not (any-members (λ i. not (p i))) ∙ none_below (bit n) p w

  -- each is below w
  pub members-below : all (λ i. ltb i w) (members w n) ≡ true
  members-below = all-members (λ i. ltb i w) ∙ below_intro w _ (λ i l. rw (lt-ltb i w l) (or-true (not (bit n i))))

  -- the number is told by its members
  pub number_of_members : n < 2 ^ w → of_bits w (λ i. any (eqb i) (members w n)) ≡ n
  number_of_members h =
      ext w _ n (of_bits_lt w _) h
      (λ i l. bit-of_bits w (λ i. any (eqb i) (members w n)) i l ∙ is_member i ∙ ap (λ b. b && bit n i) (lt-ltb i w l))

  -- only 0 has none
  pub none-zero : n < 2 ^ w → eqb n 0 ≡ eqb (length (members w n)) 0
  none-zero h =
      iff _ _
      (λ t. no_element (members w n)
      (λ i. is_member i ∙ ap (λ (k : ℕ). ltb i w && bit k i) (eqb-true n 0 t) ∙ rw (bit_of_zero i) (and-false (ltb i w))))
      (λ t. by_cases (eqb n 0) (λ e. e)
      (λ e. let f = some_bit w n h (λ z. false≢true (sym e ∙ eq-eqb n 0 z)) in
      absurd (in_none (members w n) f.0 t (is_member f.0 ∙ both (lt-ltb f.0 w f.1) f.2))))

-- 0 has none
pub members-zero : (w : ℕ) → members w 0 ≡ []
unfolding members
members-zero w = none_kept (tabulate w (λ (i : ℕ). i))
