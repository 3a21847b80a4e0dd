-- How many of some words lie below a number.
use Rattle.std.specs.Prelude.{ℕ, ◌≤◌, ◌<◌, List, length, get_or}

-- the first r words, and no later one, lie below x
pub record Below (words : List ℕ) (x r : ℕ) : Type 0 where
  pub within : r ≤ length words
  pub low : (i : ℕ) → i < r → get_or words i 0 < x
  pub high : (i : ℕ) → r ≤ i → i < length words → x ≤ get_or words i 0
