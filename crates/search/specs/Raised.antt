-- What some loans do to a round that is being made.
use Rattle.std.specs.Prelude.{◌≡◌, List, ℕ, ◌≤◌, ◌<◌, max, length, get_or}
use Rattle.bits.specs.Sets.{most}
use Rattle.delegation.specs.Loans.{lender}
use Rattle.delegation.specs.Search.{arriving}

-- each entry is raised to the greatest that the loans pass on to that person, by the entries of the round before
pub record Raised (next ls round after : List ℕ) : Type 0 where
  pub long : length after ≡ length next
  pub entries : (q : ℕ) → q < 64 → get_or after q 0 ≡ max (get_or next q 0) (most (arriving ls round q) (length ls))

-- no lender of the loans has an entry above r
abbrev pub NoneAbove : ℕ → List ℕ → List ℕ → Type 0
NoneAbove r ls round = (j : ℕ) → j < length ls → get_or round (lender (get_or ls j 0)) 0 ≤ r
