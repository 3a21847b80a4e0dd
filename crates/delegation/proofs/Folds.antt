-- Chains that fold with no exit: `s.iter().fold(a, |all, w| all & test(w))`, and the same with a state that is judged at the end.
use mathlib.Core.Path.{◌≡◌, sym, ap, ◌∙◌, subst}
use mathlib.Core.Bool.{Bool, ◌&&◌, and_assoc, and-true}
use mathlib.Core.List.{List, [], ◌∷◌, ◌++◌}
use denote.Param.Members.{Mut}
use denote.Ref.{Bor}
use Rattle.std.specs.Prelude.{Option}
use Rattle.std.specs.Fn.{Called}
use Rattle.std.specs.Iterator.{Drains, FoldTurn, AlwaysYields}
use Rattle.std.specs.List.{FoldsTo}
use Rattle.std.specs.Slice.Iter.{iter_rest}
use Rattle.std.specs.declared.slice.Iter.{Iter}
use Rattle.std.proofs.lemmas.Fn.{fold_over, slice_gives, fronts}
use Rattle.bits.specs.Sets.{all}

module _ {A : Type 0} (p : A → Bool) where
  all-snoc : (xs : List A) (x : A) → all p (xs ++ (x ∷ [])) ≡ (all p xs && p x)
  unfolding all
  all-snoc [] x = and-true (p x)
  all-snoc (y ∷ xs) x = ap (λ b. p y && b) (all-snoc xs x) ∙ sym (and_assoc (p y) (all p xs) (p x))

  module _ {C F : Type 0} (g : Mut F (C × (Bor A × Unit {0})) C) (passes : C → Bool) (f : F) where
    -- a call makes a state pass exactly where it did and the word passes, and changes nothing that the closure holds
    abbrev pub Tests : Type 0
    Tests = (a : C) (x : Bor A) (b : C) (f' : F) → Called g f (a, (x, tt)) b f' → (passes b ≡ passes a && p x.now) × (f' ≡ f)

    abbrev pub Ran : {S : Type 0} → (S → Option (Bor A) → S → Type 0) → S → C → C → Type 0
    Ran steps s a r = (ys : List (Bor A)) × (f' : F) × Drains steps s ys × FoldsTo {P = F × C} (FoldTurn g) (f, a) ys (f', r)

    -- the state at the end passes exactly where the first does and every word
    pub all_yielded : {S : Type 0} (steps : S → Option (Bor A) → S → Type 0) (s : S) (xs : List A) (a r : C)
        → AlwaysYields steps (λ (y : Bor A). y.now) s xs → Tests → Ran steps s a r → passes r ≡ passes a && all p xs
    unfolding all
    all_yielded steps s xs a r yields turn ran =
        fold_over steps (λ (y : Bor A). y.now) g (λ ys c. passes c ≡ passes a && all p ys) f
        (λ ys c x b f' j k. let w = turn c x b f' k in
        (w.0 ∙ ap (λ z. z && p x.now) j ∙ and_assoc (passes a) (all p ys) (p x.now) ∙ ap (λ z. passes a && z) (sym (all-snoc ys x.now)), w.1))
        s xs a r yields (sym (and-true (passes a))) ran

    pub all_fold : (s : Iter A) (xs : List A) (a r : C) → Ran fronts s a r → iter_rest s ≡ xs → Tests → passes r ≡ passes a && all p xs
    all_fold s xs a r ran e turn =
        all_yielded fronts s xs a r (subst (λ (zs : List A). AlwaysYields fronts (λ (y : Bor A). y.now) s zs) e (slice_gives s)) turn ran
