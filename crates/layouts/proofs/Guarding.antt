-- Numbers 1 and 2 come before all others, whatever a unit's lengths and order are: a refusal by them stays what it is, and where there is
-- none the number after them is the answer's. The number of a check follows.
use mathlib.Core.Path.{◌≡◌, refl}
use mathlib.Core.Bool.{Bool, true, false, not}
use Prim.Native.Nat.{ℕ}
use Rattle.std.specs.Prelude.{Err}
use Rattle.model.specs.declared.Refusal.TheVariants as is
use Rattle.model.specs.Answers.{asked}
use Rattle.layouts.specs.Machine.{guarded_by}
use Rattle.model.proofs.Answers.{Known, known-row, asked-known}
use Rattle.model.proofs.Invariant.{passed}

pub guard_off : (a b : Bool) (n : ℕ) → (guarded_by a b 0 ≡ 0 → ⊥) → guarded_by a b 0 ≡ guarded_by a b n
guard_off true true n h = absurd (h refl)
guard_off true false n h = refl
guard_off false b n h = refl

module _ (a b : Bool) where
  pub guard_passed : guarded_by a b 0 ≡ 0 → (a ≡ true) × (b ≡ true)
  guard_passed e =
      let p = passed 0 a _ e in
      (p.0, (passed 1 b _ p.1).0)

  pub guard_on : (n : ℕ) → guarded_by a b 0 ≡ 0 → guarded_by a b n ≡ n
  guard_on n e = let p = guard_passed e in rw (p.0, p.1)

  pub guard_known : (n : ℕ) → Known n → Known (guarded_by a b n)
  guard_known n k =
      known-row (not a) 1 _ (record { answer = Err is.WrongLength; number = refl })
      (known-row (not b) 2 _ (record { answer = Err is.NotInOrder; number = refl }) k)

  -- the number of a check
  pub check_guard_known : (p o r : ℕ) → Known (guarded_by a b (asked p o r))
  check_guard_known p o r = guard_known (asked p o r) (asked-known p o r)
