-- Which loans end where grants do. A drop ends the loans that its person made on its item and right, if it ends that person's last grant
-- there. So one after another drops end the loans whose lender had a grant of their item and right before the first and has none after
-- the last (`left_is`): each such loan ends with the drop that ends its lender's last grant, and what is left is told by the grants
-- before and after alone. This holds of the journal's loans and of an image's loan words alike.
use mathlib.Core.Path.{◌≡◌, refl, sym, ap, ◌∙◌}
use mathlib.Core.Bool.{Bool, true, false, not, ◌&&◌, false≢true, and-true, and-false, and-not_self}
use mathlib.Core.List.{List, [], ◌∷◌}
use Prim.Native.Nat.{ℕ}
use borrow.Author.Tests.{eqb-true}
use lib.Dec.{eqb}
use Rattle.bits.specs.Sets.{all, keep}
use Rattle.model.specs.Journal.{Grant}
use Rattle.bits.proofs.Sets.{by_cases, fst, snd, all_true, keep_cong, keep_all, keep-keep}

-- S has grants, of which `held` tells who holds what, and X is a kind of loan
module _ {S X : Type 0} (held : S → ℕ → ℕ → ℕ → Bool) (lender item right : X → ℕ) where
  -- p made x, on o, right r
  abbrev pub from : ℕ → ℕ → ℕ → X → Bool
  from p o r x = eqb (lender x) p && eqb (item x) o && eqb (right x) r

  -- x's lender has a grant of its item and right
  abbrev pub backed : S → X → Bool
  backed s x = held s (lender x) (item x) (right x)

  -- and no longer has one
  abbrev pub lost : S → S → X → Bool
  lost s t x = backed s x && not (backed t x)

  -- where no other's grants ended than p's on o, right r, the loans lost are p's there
  pub lost_there : (s t : S) (p o r : ℕ) → ((x : X) → from p o r x ≡ false → backed t x ≡ backed s x) → (x : X)
      → (held s p o r && not (held t p o r)) && from p o r x ≡ lost s t x
  lost_there s t p o r others x =
      by_cases (from p o r x)
      (λ e. let a : lender x ≡ p = search (fst, snd, eqb-true) in
      let b : item x ≡ o = search (fst, snd, eqb-true) in
      let c : right x ≡ r = search (fst, snd, eqb-true) in
      ap (λ f. (held s p o r && not (held t p o r)) && f) e ∙ and-true (held s p o r && not (held t p o r)) ∙ same (lender x) (item x) (right x) a b c)
      (λ e. ap (λ f. (held s p o r && not (held t p o r)) && f) e ∙ and-false (held s p o r && not (held t p o r))
      ∙ sym (ap (λ b. backed s x && not b) (others x e) ∙ and-not_self (backed s x)))
    where
      same : (q i k : ℕ) → q ≡ p → i ≡ o → k ≡ r → held s p o r && not (held t p o r) ≡ held s q i k && not (held t q i k)
      same q i k a b c = rw (a, b, c)

  -- `less` takes a grant out, of those that are `ok`
  module _ (less : S → Grant → S) (ok : Grant → Bool)
      (fewer : (s : S) (g : Grant) → ok g ≡ true → (x : X) → backed (less s g) x ≡ true → backed s x ≡ true)
      (others : (s : S) (g : Grant) → ok g ≡ true → (x : X) → from g.person g.item g.right x ≡ false
      → backed (less s g) x ≡ backed s x) where
    -- several, one after another
    abbrev pub less_all : S → List Grant → S
    less_all s [] = s
    less_all s (g ∷ gs) = less_all (less s g) gs

    -- a drop of g ends loan x
    abbrev pub ends : S → Grant → X → Bool
    ends s g x =
        (held s g.person g.item g.right && not (held (less s g) g.person g.item g.right))
        && from g.person g.item g.right x

    -- the loans after several drops
    abbrev pub left : S → List Grant → List X → List X
    left s [] xs = xs
    left s (g ∷ gs) xs = left (less s g) gs (keep (λ x. not (ends s g x)) xs)

    fewer_all : (gs : List Grant) (s : S) → all ok gs ≡ true → (x : X) → backed (less_all s gs) x ≡ true → backed s x ≡ true
    unfolding all
    fewer_all [] s h x b = b
    fewer_all (g ∷ gs) s h x b =
        fewer s g (fst (ok g) (all ok gs) h) x (fewer_all gs (less s g) (snd (ok g) (all ok gs) h) x b)

    pub left_is : (gs : List Grant) (s : S) (xs : List X) → all ok gs ≡ true
        → left s gs xs ≡ keep (λ x. not (lost s (less_all s gs) x)) xs
    unfolding all
    left_is [] s xs h =
        sym (keep_cong _ (λ x. true) (λ x. true) xs (all_true xs) (λ x k. ap not (and-not_self (backed s x)))
        ∙ keep_all (λ x. true) xs (all_true xs))
    left_is (g ∷ gs) s xs h =
        let o : ok g ≡ true = fst (ok g) (all ok gs) h in
        let k : all ok gs ≡ true = snd (ok g) (all ok gs) h in
        left_is gs (less s g) (keep (λ x. not (ends s g x)) xs) k
        ∙ keep-keep _ (λ x. not (ends s g x)) xs
        ∙ keep_cong _ _ (λ x. true) xs (all_true xs)
        (λ x u. ap (λ b. not b && not (lost (less s g) (less_all (less s g) gs) x))
        (lost_there s (less s g) g.person g.item g.right (others s g o) x)
        ∙ through (backed s x) (backed (less s g) x) (backed (less_all (less s g) gs) x) (fewer s g o x) (fewer_all gs (less s g) k x))
      where
        through : (a b c : Bool) → (b ≡ true → a ≡ true) → (c ≡ true → b ≡ true)
            → not (a && not b) && not (b && not c) ≡ not (a && not c)
        through true true c f g = refl
        through true false true f g = absurd (false≢true (g refl))
        through true false false f g = refl
        through false true c f g = absurd (false≢true (f refl))
        through false false c f g = refl
