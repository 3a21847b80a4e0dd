-- Commands one after another, one for each number of a list: where one that may be given is done and takes nothing away that another needs,
-- all of them are, by recursion over the list.
use mathlib.Core.Path.{◌≡◌, sym, ap, ◌∙◌, subst}
use mathlib.Core.Bool.{Bool, true}
use mathlib.Core.List.{List, [], ◌∷◌, map}
use Prim.Native.Nat.{ℕ}
use Rattle.bits.specs.Sets.{all}
use Rattle.bits.proofs.Sets.{fst, snd, all_mono}
use Rattle.model.specs.declared.Command.{Command}
use Rattle.model.specs.AllowSet.{Accepts, none, one, finally}

-- Anything that answers commands, where command i is done if the state is Able and i may be named; `after` is the state that it leaves,
-- `each` that of several
pub record Singles {S : Type 0} (number : S → Command → ℕ) (next : S → Command → S) (command : ℕ → Command) (Able : S → Type 0)
    (may : S → ℕ → Bool) (after : S → ℕ → S) (each : S → List ℕ → S) : Type 0 where
  pub done : (s : S) (i : ℕ) → Able s → may s i ≡ true → number s (command i) ≡ 0
  pub leaves : (s : S) (i : ℕ) → number s (command i) ≡ 0 → next s (command i) ≡ after s i
  pub still : (s : S) (i : ℕ) → Able s → may s i ≡ true → Able (after s i)
  pub others : (s : S) (i : ℕ) → Able s → may s i ≡ true → (k : ℕ) → may s k ≡ true → may (after s i) k ≡ true
  pub nobody : (s : S) → each s [] ≡ s
  pub more : (s : S) (i : ℕ) (is : List ℕ) → each s (i ∷ is) ≡ each (after s i) is

module _ {S : Type 0} {number : S → Command → ℕ} {next : S → Command → S} {command : ℕ → Command} {Able : S → Type 0} {may : S → ℕ → Bool}
    {after : S → ℕ → S} {each : S → List ℕ → S} (T : Singles number next command Able may after each) where
  -- all are accepted, and leave what `each` says
  pub one_by_one : (is : List ℕ) (s : S) → Able s → all (may s) is ≡ true
      → Accepts number next s (map command is) × (finally number next s (map command is) ≡ each s is)
  unfolding all
  one_by_one [] s r h = (none, sym (T.nobody s))
  one_by_one (i ∷ is) s r h =
      let k = fst (may s i) (all (may s) is) h in
      let d = T.done s i r k in
      let e = T.leaves s i d in
      let q = one_by_one is (after s i) (T.still s i r k)
      (all_mono (may s) (may (after s i)) is (snd (may s i) (all (may s) is) h) (T.others s i r k)) in (
        one d (subst (λ x. Accepts number next x (map command is)) (sym e) q.0),
        ap (λ x. finally number next x (map command is)) e ∙ q.1 ∙ sym (T.more s i is),
      )
