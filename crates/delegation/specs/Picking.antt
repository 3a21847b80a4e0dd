-- Picking: the loans that the search of a check is given.
-- 'It is to pick out the carrying loans for the item and right once, before its search begins. Those picked are proved to be exactly
-- these loans, each once and rising, and the search is given no other loan.'
use Rattle.std.specs.Prelude.{◌≡◌, Bool, true, ◌&&◌, List, ◌↔◌, ℕ, eqb, length}
use Rattle.bits.specs.Sets.{any, keep, count}
use Rattle.model.specs.Journal.{carries}
use Rattle.delegation.specs.Loans.{key_of, loan_item, loan_right, last_shift, shift_in, used, rising}
use Rattle.delegation.specs.Images.{WordCarries}

-- a loan of one item and right that carries at shift now
abbrev pub picks : ℕ → ℕ → ℕ → Bool
picks now key w = eqb (key_of w) key && carries now (last_shift w)

-- the loans picked from image t for one item and right: of those in use, in their order, the ones that carry
unfoldable pub picked : List ℕ → ℕ → List ℕ
picked t key = keep (picks (shift_in t) key) (used t)

-- the test of a loan word that is in use: it is of item o and right r, and carries
abbrev pub carries_on : List ℕ → ℕ → ℕ → ℕ → Bool
carries_on t o r w = eqb (loan_item w) o && eqb (loan_right w) r && carries (shift_in t) (last_shift w)

-- what loans ls are where they are picked from image t for item o and right r
pub record Picked (t : List ℕ) (o r : ℕ) (ls : List ℕ) : Type 0 where
  -- 'exactly these loans': a word is picked exactly when it is in use, is of that item and right, and carries
  pub exactly : (w : ℕ) → any (eqb w) ls ≡ true ↔ WordCarries t o r w
  -- 'each once'
  pub once : (w : ℕ) → any (eqb w) ls ≡ true → count (eqb w) ls ≡ 1
  -- 'and rising'
  pub rises : rising ls ≡ true
  -- as many as there are
  pub many : length ls ≡ count (carries_on t o r) (used t)
