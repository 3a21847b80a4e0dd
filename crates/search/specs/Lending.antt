-- What one person is lent: the loans to that person laid out by lender, and what they pass on in a round.
use Rattle.std.specs.Prelude.{◌≡◌, Bool, true, not, ◌&&◌, cond, List, ℕ, ◌+◌, ◌-◌, ◌≤◌, ◌<◌, min, eqb, length, get_or, take}
use Rattle.bits.specs.Sets.{tabulate, most}
use Rattle.delegation.specs.Loans.{lender, borrower, loan_depth}

-- 1 + the depth of the loan in place i of ls where it is from p to q, else 0
abbrev pub lending : List ℕ → ℕ → ℕ → ℕ → ℕ
lending ls q p i = cond (eqb (lender (get_or ls i 0)) p && eqb (borrower (get_or ls i 0)) q) (loan_depth (get_or ls i 0) + 1) 0

-- for each lender 0, or 1 + the greatest depth of its loans to q
unfoldable pub lent_to : List ℕ → ℕ → List ℕ
lent_to ls q = tabulate 64 (λ (p : ℕ). most (lending ls q p) (length ls))

-- the greatest that such loans pass on by the entries of a round
unfoldable pub passed_on : List ℕ → List ℕ → ℕ
passed_on row round = most (λ (p : ℕ). min (get_or round p 0 - 1) (get_or row p 0)) 64

-- a loan to another than q
abbrev pub is_to_other : ℕ → ℕ → Bool
is_to_other q w = not (eqb (borrower w) q)

-- the loans from place i on, up to place n, are to others than q
abbrev pub ToOthers : List ℕ → ℕ → ℕ → ℕ → Type 0
ToOthers ls q i n = (j : ℕ) → i ≤ j → j < n → is_to_other q (get_or ls j 0) ≡ true

-- xs are the first of the loans ls
abbrev pub First : List ℕ → List ℕ → Type 0
First ls xs = (length xs ≤ length ls) × (xs ≡ take (length xs) ls)

-- the same, and the others of ls are to others than q
abbrev pub LeftTo : List ℕ → ℕ → List ℕ → Type 0
LeftTo ls q xs = First ls xs × ToOthers ls q (length xs) (length ls)
