-- The two images of a chain unit, and the chains that they hold.
use Rattle.std.specs.Prelude.{◌≡◌, Bool, true, ◌&&◌, List, ℕ, eqb}
use Rattle.bits.specs.Sets.{any}
use Rattle.model.specs.Commands.{items, right_depth}
use Rattle.model.specs.Journal.{Grant, grant, carries}
use Rattle.layouts.specs.Layouts.{grant_bytes, grant_bit}
use Rattle.model.specs.Chain.{Chain}
use Rattle.delegation.specs.Loans.{last_shift, lender, loan_item, loan_right, borrower, loan_depth, shift_in, used}

-- the two images of a chain unit
pub record Images : Type 0 where
  pub grants : List ℕ
  pub loans : List ℕ

-- the same, of its parts
abbrev pub images : List ℕ → List ℕ → Images
images g t = record { grants = g; loans = t }

-- the grants that an image holds
abbrev pub standing_in : List ℕ → Grant → Bool
standing_in s g = items g.person g.item && right_depth g.right g.depth && grant_bit grant_bytes s (grant_bytes.place g)

-- loan word w is in use and carries, on item o and right r
abbrev pub WordCarries : List ℕ → ℕ → ℕ → ℕ → Type 0
WordCarries t o r w =
    (any (eqb w) (used t) ≡ true) × (loan_item w ≡ o) × (loan_right w ≡ r) × (carries (shift_in t) (last_shift w) ≡ true)

-- a chain of the images' grants and carrying loans
abbrev pub ImageChain : Images → ℕ → ℕ → List ℕ → ℕ → ℕ → Type 0
ImageChain s o r = Chain lender borrower loan_depth (λ p e. standing_in s.grants (grant p o r e) ≡ true) (WordCarries s.loans o r)
