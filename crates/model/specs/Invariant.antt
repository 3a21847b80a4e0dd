-- What every journal keeps, from the fresh one on and over every command; the theorems are `kept_fresh` and `kept_step`.
use Rattle.std.specs.Prelude.{◌≡◌, Bool, true, not, ◌&&◌, ℕ, ◌≤◌, eqb, List, [], ◌∷◌, length}
use Rattle.bits.specs.Sets.{any, all}
use Rattle.model.specs.Commands.{items, right_depth, shifts, most_loans}
use Rattle.model.specs.Journal.{Grant, Loan, Journal, same_loan, lives}

-- every number of a grant is within its limit
abbrev pub ranged : Grant → Bool
ranged g = items g.person g.item && right_depth g.right g.depth

-- and it names living items: f says which live
abbrev pub sound : (ℕ → Bool) → Grant → Bool
sound f g = ranged g && (f g.person && f g.item)

-- every number of a loan is within its limit
abbrev pub ranged_loan : Loan → Bool
ranged_loan l =
    items l.lender l.borrower && items l.borrower l.item && right_depth l.right l.depth && shifts l.last

-- it is not of right 0, and it names living items
abbrev pub sound_loan : (ℕ → Bool) → Loan → Bool
sound_loan f l = ranged_loan l && not (eqb l.right 0) && (f l.lender && f l.item && f l.borrower)

-- no loan twice
unfoldable pub distinct : List Loan → Bool
distinct [] = true
distinct (l ∷ ls) = not (any (same_loan l) ls) && distinct ls

-- item 0 lives, and each grant is sound
pub record Inv (j : Journal) : Type 0 where
  pub root : lives j 0 ≡ true
  pub grants-sound : all (sound (lives j)) j.grants ≡ true

-- each loan is sound, none is there twice, '1,024 loans stand' at most, and the shift is within its limit
pub record LoanInv (j : Journal) : Type 0 where
  pub loans-sound : all (sound_loan (lives j)) j.loans ≡ true
  pub loans-distinct : distinct j.loans ≡ true
  pub loans_few : length j.loans ≤ most_loans
  pub shift_in : j.shift ≤ 255

-- both
pub record Kept (j : Journal) : Type 0 where
  pub inv : Inv j
  pub loan-inv : LoanInv j

-- two journals with the same live items and grants
pub record Alike (j k : Journal) : Type 0 where
  pub live : j.live ≡ k.live
  pub grants : j.grants ≡ k.grants
