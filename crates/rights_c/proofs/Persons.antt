-- The check of a chain unit returns no yes to C: it is read off the number of persons.
use mathlib.Core.Path.{◌≡◌}
use mathlib.Core.Bool.{true}
use mathlib.Core.Logic.{◌↔◌}
use mathlib.Core.List.{List}
use Prim.Native.Nat.{ℕ, ◌≤◌}
use native.Mathlib.Omega.{arith}
use Rattle.model.specs.Answers.{Found}
use Rattle.model.specs.Chain.{Meets}
use Rattle.bits.proofs.Sets.{by_cases}

-- of any answer that demand 2 admits: yes exactly when there are 1 to 8 persons
pub told : {C : List ℕ → ℕ → Type 0} {f : Found} {buffer : List ℕ} → Meets C f buffer
    → (f.yes ≡ true) ↔ ((1 ≤ f.persons) × (f.persons ≤ 8))
told {C} {f} {buffer} m =
    (λ y. let k = m.padded y in (k.0, k.1), λ q. by_cases f.yes (λ y. y) (λ n. absurd (omega (arith, (m.none n).1, q.0))))
