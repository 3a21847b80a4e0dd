-- A loop that sets single elements of a list to 0, for any places: code clears cells that stand apart so, of any width.
use mathlib.Core.Path.{◌≡◌, refl, ◌∙◌}
use mathlib.Core.Bool.{Bool, cond}
use mathlib.Core.List.{List}
use Prim.Native.Nat.{ℕ, ◌+◌, ◌<◌}
use borrow.Author.Tests.{eqb-true, eqb-false}
use lib.ListN.{length, get_or, set, length-set}
use lib.Seq.{get_or-set_same, get_or-set_other}
use lib.Dec.{eqb}
use Rattle.bits.specs.Sets.{any_below}
use Rattle.bits.proofs.Sets.{by_cases}
use Rattle.bits.proofs.Indexed.{some_suc}

-- m is old with 0 at each place that passes
pub record Zeroed (f : ℕ → Bool) (old m : List ℕ) : Type 0 where
  pub long : length m ≡ length old
  pub cell : (k : ℕ) → get_or m k 0 ≡ cond (f k) 0 (get_or old k 0)

-- a loop that puts 0 at place g 0, then g 1, and so on
module _ (g : ℕ → ℕ) (old : List ℕ) where
  pub zeroed-none : Zeroed (λ k. any_below 0 (λ j. eqb k (g j))) old old
  unfolding any_below
  zeroed-none = record { long = refl; cell = λ k. refl }

  pub zeroed_more : (n : ℕ) (m : List ℕ) → Zeroed (λ k. any_below n (λ j. eqb k (g j))) old m → g n < length old
      → Zeroed (λ k. any_below (n + 1) (λ j. eqb k (g j))) old (set m (g n) 0)
  zeroed_more n m z l =
      let b : g n < length m = rw z.long l in
      record {
        long = length-set m (g n) 0 ∙ z.long;
        cell =
            λ k. rw (some_suc n (λ j. eqb k (g j)))
            (by_cases (eqb k (g n)) (λ t. rw (t, eqb-true k (g n) t) (get_or-set_same m (g n) 0 0 b))
            (λ t. rw t (get_or-set_other m (g n) k 0 0 (eqb-false k (g n) t) ∙ z.cell k)));
      }
