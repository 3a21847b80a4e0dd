-- What the contracts of the loans image cite, beside the loans of the model.
use Rattle.std.specs.Prelude.{◌≡◌, Bool, true, not, ◌&&◌, cond, List, ℕ, ◌-◌, length, get_or, eqb}
use Rattle.bits.specs.Sets.{keep}
use Rattle.delegation.specs.Loans.{lender, loan_item, loan_right, borrower, word_names, word_from, word_past, rising, loan_words, header_in, used, loans_image}
use Rattle.loans.specs.declared.Rule.{Rule}
use Rattle.loans.specs.declared.Rule.TheVariants as rule
use Rattle.loans.specs.declared.order.Dead.{Dead}

-- item i lives, by a mask of 64 bytes: 0 where it does, 255 where it does not
abbrev pub unmasked : List ℕ → ℕ → Bool
unmasked d i = eqb (get_or d i 0) 0

-- a loan word is not of right 0
abbrev pub shaped : ℕ → Bool
shaped w = not (eqb (loan_right w) 0)

-- the items that a loan word names live
abbrev pub names_live : (ℕ → Bool) → ℕ → Bool
names_live live w = live (lender w) && live (loan_item w) && live (borrower w)

-- no field has named a dead item, by the sums of the three fields' masks
abbrev pub none_dead : Dead → Bool
none_dead d = eqb d.lender 0 && eqb d.item 0 && eqb d.borrower 0

-- the loan words that a rule lets stand: those that do not name the item
abbrev pub keeps_of : Rule → ℕ → Bool
keeps_of (rule.Naming i) w = not (word_names i.0 w)
-- those that the person did not make on that item, of that right
keeps_of (rule.From p o r) w = not (word_from p.0 o.0 r.0 w)
-- those that are not past their last shift
keeps_of (rule.Past now) w = not (word_past now.0 w)

-- how many loans a pass by the rule ends; none where the slice is no loans image by its length
abbrev pub ended_by : Rule → List ℕ → ℕ
ended_by rule t = cond (eqb (length t) loan_words) (length (used t) - length (keep (keeps_of rule) (used t))) 0

-- a loans image that is in order, whatever items it names
pub record Ordered (t : List ℕ) : Type 0 where
  pub long : length t ≡ loan_words
  pub rises : rising (used t) ≡ true
  pub whole : t ≡ loans_image (header_in t) (used t)
