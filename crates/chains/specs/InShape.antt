-- What an answer is asked of: images that were judged, and arguments within their ranges.
use Rattle.std.specs.Prelude.{◌≡◌, true, List, ℕ, ◌≤◌}
use Rattle.model.specs.Commands.{most_loans}
use Rattle.delegation.specs.Loans.{rising, count_of, shift_in, used}

-- the loans rise, and the shift, the count and the arguments are within their limits
pub record InShape (t : List ℕ) (who on right : ℕ) : Type 0 where
  pub shift : shift_in t ≤ 255
  pub rises : rising (used t) ≡ true
  pub count : count_of t ≤ most_loans
  pub person : who ≤ 63
  pub item : on ≤ 63
  pub rights : right ≤ 7
