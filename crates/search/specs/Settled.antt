-- Rounds that serve for one person as the whole of them, though later ones may differ.
use Rattle.std.specs.Prelude.{◌≡◌, List, [], ℕ, ◌<◌, get_or}
use Rattle.bits.specs.Sets.{most, first_at}
use Rattle.delegation.specs.Search.{column}

-- the person's greatest entry is the same, it is first in the same round, and the rounds before that one are the same
pub record Settled (whole rounds : List (List ℕ)) (who : ℕ) : Type 0 where
  pub value : most (column rounds who) 8 ≡ most (column whole who) 8
  pub at : first_at (column rounds who) 8 ≡ first_at (column whole who) 8
  pub same : (k : ℕ) → k < first_at (column whole who) 8 → get_or rounds k [] ≡ get_or whole k []
