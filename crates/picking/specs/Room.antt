-- What the pick is given: a loans image that was judged, an item and a right within their limits, and room.
use Rattle.std.specs.Prelude.{◌≡◌, true, List, ℕ, ◌≤◌, length}
use Rattle.model.specs.Commands.{most_loans}
use Rattle.delegation.specs.Loans.{rising, loan_words, count_of, shift_in, used}

-- the image has its length, its loans rise, the shift, the count and the arguments are within their limits, and there is room for as many
-- words as loans are in use
pub record Pickable (t : List ℕ) (on right room : ℕ) : Type 0 where
  pub loans : length t ≡ loan_words
  pub shift : shift_in t ≤ 255
  pub rises : rising (used t) ≡ true
  pub count : count_of t ≤ most_loans
  pub room_for : count_of t ≤ room
  pub item : on ≤ 63
  pub rights : right ≤ 7
