-- What the pick of loans does: the loans of a key among some words are put behind those picked before.
use Rattle.std.specs.Prelude.{◌≡◌, Bool, List, ◌++◌, ℕ, ◌+◌, ◌≤◌, eqb, length, take}
use Rattle.bits.specs.Sets.{keep}
use Rattle.delegation.specs.Loans.{key_of}

-- a loan of the key
abbrev pub of_key : ℕ → ℕ → Bool
of_key key w = eqb (key_of w) key

-- behind the first m of out stand the loans of the key among these words, in their order: r in all
pub record Appended (out : List ℕ) (m : ℕ) (words : List ℕ) (key r : ℕ) (after : List ℕ) : Type 0 where
  pub count : r ≤ m + length words
  pub are : take r after ≡ take m out ++ keep (of_key key) words
