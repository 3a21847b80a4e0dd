-- The journal: document 01's plain machine, to which every unit is held.
-- Its state is the live items ('a roll of living items'), the grants and the loans, as lists without duplicates, and the shift
-- (document 02: 'the journal has the shift in its state').
use Rattle.std.specs.Prelude.{◌≡◌, Bool, true, false, not, ◌&&◌, ◌||◌, cond, List, [], ◌∷◌, map, ℕ, min, length, eqb, leb, ltb}
use Rattle.model.specs.declared.Command.{Command}
use Rattle.model.specs.declared.Command.TheVariants.{Create, Delete, Allow, Withdraw, Lend, Recall, Shift, AllowSet, Drop, Sweep}
use Rattle.model.specs.declared.Arguments.{Arguments}
use Rattle.model.specs.declared.Facts.{Facts}
use Rattle.bits.specs.Sets.{any, all, keep, add, count}
use Rattle.model.specs.Commands.{arguments_of, is_sweep, fits, members_of, is_empty, depths, most_loans}
use Rattle.model.specs.Answers.{Effect, effect_of, answer, ◌when◌else◌}

-- 'a set of grants (person, item, right, depth)'
pub record Grant : Type 0 where
  pub person : ℕ
  pub item : ℕ
  pub right : ℕ
  pub depth : ℕ

-- 'a set of loans (lender, item, right, borrower, depth)': a loan is a delegation of document 002. Its last shift is '1 to 255; 0 means
-- open-ended'
pub record Loan : Type 0 where
  pub lender : ℕ
  pub item : ℕ
  pub right : ℕ
  pub borrower : ℕ
  pub depth : ℕ
  pub last : ℕ

-- 'a plain machine': live items, grants and loans, and the present shift
pub record Journal : Type 0 where
  pub live : List ℕ
  pub grants : List Grant
  pub loans : List Loan
  pub shift : ℕ

-- a grant of its parts
abbrev pub grant : ℕ → ℕ → ℕ → ℕ → Grant
grant p o r d = record { person = p; item = o; right = r; depth = d }

-- a loan of its parts
abbrev pub loan : ℕ → ℕ → ℕ → ℕ → ℕ → ℕ → Loan
loan p o r q d n = record { lender = p; item = o; right = r; borrower = q; depth = d; last = n }

-- ---- tests
abbrev pub same_grant : Grant → Grant → Bool
same_grant g h = eqb g.person h.person && eqb g.item h.item && eqb g.right h.right && eqb g.depth h.depth

-- two loans are one: all their numbers are equal
abbrev pub same_loan : Loan → Loan → Bool
same_loan l m =
    eqb l.lender m.lender && eqb l.item m.item && eqb l.right m.right && eqb l.borrower m.borrower
    && eqb l.depth m.depth && eqb l.last m.last

-- a grant to p on o, right r, at any depth
abbrev pub is_to : ℕ → ℕ → ℕ → Grant → Bool
is_to p o r g = eqb g.person p && eqb g.item o && eqb g.right r

-- a grant names i as person or item
abbrev pub names : ℕ → Grant → Bool
names i g = eqb g.person i || eqb g.item i

-- a loan that p made on o, right r
abbrev pub is_from : ℕ → ℕ → ℕ → Loan → Bool
is_from p o r l = eqb l.lender p && eqb l.item o && eqb l.right r

-- a loan names i as lender, item or borrower
abbrev pub loan_names : ℕ → Loan → Bool
loan_names i l = eqb l.lender i || eqb l.item i || eqb l.borrower i

-- 'A loan carries only while open-ended or not past its last shift': at shift now, with that last shift
unfoldable pub carries : ℕ → ℕ → Bool
carries now last = eqb last 0 || leb now last

-- 'past their last shift': at shift now a loan with that last shift does not carry
abbrev pub is_past : ℕ → ℕ → Bool
is_past now last = not (carries now last)

-- 'a loan with a last shift', past it or not
abbrev pub is_dated : Loan → Bool
is_dated l = not (eqb l.last 0)

-- ---- the state
abbrev pub lives : Journal → ℕ → Bool
lives j i = any (eqb i) j.live

-- p has a grant on o, right r, at any depth; of right 0 it is 'an edit grant'
abbrev pub has_grant : Journal → ℕ → ℕ → ℕ → Bool
has_grant j p o r = any (is_to p o r) j.grants

-- that grant stands
abbrev pub standing : Journal → Grant → Bool
standing j g = any (same_grant g) j.grants

-- loan l stands
abbrev pub standing_loan : Journal → Loan → Bool
standing_loan j l = any (same_loan l) j.loans

-- loan l stands and carries, on item o and right r
abbrev pub LoanCarries : Journal → ℕ → ℕ → Loan → Type 0
LoanCarries j o r l = (standing_loan j l ≡ true) × (l.item ≡ o) × (l.right ≡ r) × (carries j.shift l.last ≡ true)

-- the loan that lend and recall name
abbrev pub loan_in : Arguments → Loan
loan_in a = loan a.by a.on a.right a.to a.depth a.shift

-- what the table of answers asks of the journal; members: every member of the set lives; back: 'the new shift is below the present one
-- and such a loan stands'; past: 'last is set and below the present shift'; full: '1,024 loans stand and this is not one of them'
abbrev pub facts : Journal → Arguments → Facts
facts j a = record {
  by = lives j a.by;
  on = lives j a.on;
  to = lives j a.to;
  members = all (lives j) (members_of a.set);
  edits = has_grant j a.by a.on 0;
  back = ltb a.shift j.shift && any is_dated j.loans;
  past = is_past j.shift a.shift;
  full = leb most_loans (length j.loans) && not (standing_loan j (loan_in a));
}

-- a command's number by the table
abbrev pub tabled : Journal → Command → ℕ
tabled j c = answer (facts j (arguments_of c)) (arguments_of c)

-- 'the single allows' of an allowset: one for each of these persons
abbrev pub singles : List ℕ → ℕ → ℕ → ℕ → ℕ → List Command
singles persons by on right depth = map (λ to. Allow by to on right depth) persons

-- the lowest of some numbers that refuse; 0 where none does
unfoldable pub lowest : List ℕ → ℕ
lowest [] = 0
lowest (n ∷ ns) = cond (eqb n 0) (lowest ns) (cond (eqb (lowest ns) 0) n (min n (lowest ns)))

-- a command's number; of allowset 'the lowest refusal's number, if any of them is refused', and '14 when the set is empty, straight
-- after 3'. The table gives it that number too (`answered-table`)
abbrev pub answered : Journal → Command → ℕ
answered j (Create by on) = tabled j (Create by on)
answered j (Delete by on) = tabled j (Delete by on)
answered j (Allow by to on right depth) = tabled j (Allow by to on right depth)
answered j (Withdraw by to on right) = tabled j (Withdraw by to on right)
answered j (Lend by to on right depth last) = tabled j (Lend by to on right depth last)
answered j (Recall by to on right depth last) = tabled j (Recall by to on right depth last)
answered j (Shift by now) = tabled j (Shift by now)
answered j (Drop by to on right depth) = tabled j (Drop by to on right depth)
answered j (Sweep by) = tabled j (Sweep by)
answered j (AllowSet by set on right depth) =
    3 when not (fits (arguments_of (AllowSet by set on right depth))) else
    14 when is_empty set else
    lowest (map (tabled j) (singles (members_of set) by on right depth))

-- 'Fresh: item 0 lives, and one grant stands, to 0 on 0, right 0, depth 0'; 'fresh shift 0'
unfoldable pub fresh : Journal
fresh = record { live = 0 ∷ []; grants = grant 0 0 0 0 ∷ []; loans = []; shift = 0 }

-- 'that grant stands. An equal one already standing changes nothing'
abbrev pub granted : Journal → Grant → Journal
granted j g = record { live = j.live; grants = add same_grant g j.grants; loans = j.loans; shift = j.shift }

-- the same of several grants, one after the other
abbrev pub granted_all : Journal → List Grant → Journal
granted_all j [] = j
granted_all j (g ∷ gs) = granted_all (granted j g) gs

-- some grants without g
abbrev pub less_grant : List Grant → Grant → List Grant
less_grant gs g = keep (λ h. not (same_grant g h)) gs

-- 'a person's last grant on an item and right ends': p had one on o, right r, among grants gs, and has none among hs
abbrev pub last_ends : List Grant → List Grant → ℕ → ℕ → ℕ → Bool
last_ends gs hs p o r = any (is_to p o r) gs && not (any (is_to p o r) hs)

-- 'ends one grant'; one that does not stand ends nothing. 'When a person's last grant on an item and right ends by withdraw or drop, the
-- loans that person made there end too; loans further down stay'
abbrev pub dropped : Journal → Grant → Journal
dropped j g =
    record {
      live = j.live;
      grants = less_grant j.grants g;
      loans =
          keep (λ l. not (last_ends j.grants (less_grant j.grants g) g.person g.item g.right
          && is_from g.person g.item g.right l)) j.loans;
      shift = j.shift;
    }

-- the same of several grants, one after the other
abbrev pub dropped_all : Journal → List Grant → Journal
dropped_all j [] = j
dropped_all j (g ∷ gs) = dropped_all (dropped j g) gs

-- the grants to p on o, right r, of each depth
abbrev pub of_each_depth : ℕ → ℕ → ℕ → List Grant
of_each_depth p o r = map (λ d. grant p o r d) depths

-- what an accepted command does
abbrev pub apply : Journal → Command → Journal
-- 'on lives; grant (by, on, 0, 0)'
apply j (Create by on) =
    record { live = add eqb on j.live; grants = add same_grant (grant by on 0 0) j.grants; loans = j.loans; shift = j.shift }
-- 'on leaves the roll, and each grant or loan that names it .. ends'
apply j (Delete by on) =
    record {
      live = keep (λ i. not (eqb i on)) j.live;
      grants = keep (λ g. not (names on g)) j.grants;
      loans = keep (λ l. not (loan_names on l)) j.loans;
      shift = j.shift;
    }
-- 'that grant stands. An equal one already standing changes nothing'
apply j (Allow by to on right depth) = granted j (grant to on right depth)
-- 'withdraw is eight drops, checked once before the first and done as one': what they leave is document 01's 'every depth granted to that
-- person there ends' (`withdraw-grants`), and the loans end with the drop that ends the last grant, whatever their order
-- (`journal_withdraw`)
apply j (Withdraw by to on right) = dropped_all j (of_each_depth to on right)
-- 'that loan stands, also where the lender holds nothing yet'
apply j (Lend by to on right depth last) =
    record { live = j.live; grants = j.grants; loans = add same_loan (loan by on right to depth last) j.loans; shift = j.shift }
-- 'just that loan of by ends, if it stands'
apply j (Recall by to on right depth last) =
    record {
      live = j.live;
      grants = j.grants;
      loans = keep (λ l. not (same_loan (loan by on right to depth last) l)) j.loans;
      shift = j.shift;
    }
-- '`do=shift by now` sets the shift'
apply j (Shift by now) = record { live = j.live; grants = j.grants; loans = j.loans; shift = now }
-- 'It does what the single allows do in any order': here in the rising order of the members; any other leaves the same sets
-- (`journal_allowset`)
apply j (AllowSet by set on right depth) = granted_all j (map (λ to. grant to on right depth) (members_of set))
-- '`drop` .. ends one grant'
apply j (Drop by to on right depth) = dropped j (grant to on right depth)
-- sweep 'ends all loans past their last shift'
apply j (Sweep by) =
    record {
      live = j.live;
      grants = j.grants;
      loans = keep (λ l. not (is_past j.shift l.last)) j.loans;
      shift = j.shift;
    }

-- what an accepted command counts: sweep 'returns how many there were', and no other counts anything
abbrev pub counts : Journal → Command → ℕ
counts j c = cond (is_sweep c) (count (λ (l : Loan). is_past j.shift l.last) j.loans) 0

-- what a command comes to
abbrev pub result : Journal → Command → Effect Journal
result j c = effect_of j (answered j c) (counts j c) (apply j c)

-- the journal after a command: 'a refused command changes nothing in it'
abbrev pub step : Journal → Command → Journal
step j c = (result j c).state

-- and its count
abbrev pub counted : Journal → Command → ℕ
counted j c = (result j c).count

-- the journal after a list of commands
abbrev pub run : Journal → List Command → Journal
run j [] = j
run j (c ∷ cs) = run (step j c) cs

-- p holds of the journal before the first of these commands and after each
abbrev pub Throughout : (Journal → Bool) → Journal → List Command → Type 0
Throughout p j [] = p j ≡ true
Throughout p j (c ∷ cs) = (p j ≡ true) × Throughout p (step j c) cs

-- a command that names no shift: '`last` .. 0 in document 01's listing and examples', and no shift command
abbrev pub is_plain : Command → Bool
is_plain (Create by on) = true
is_plain (Delete by on) = true
is_plain (Allow by to on right depth) = true
is_plain (Withdraw by to on right) = true
is_plain (Lend by to on right depth last) = eqb last 0
is_plain (Recall by to on right depth last) = eqb last 0
is_plain (Shift by now) = false
is_plain (AllowSet by set on right depth) = true
is_plain (Drop by to on right depth) = true
is_plain (Sweep by) = true

-- a lend by p on o, right r
abbrev pub lends_from : ℕ → ℕ → ℕ → Command → Bool
lends_from p o r (Create by on) = false
lends_from p o r (Delete by on) = false
lends_from p o r (Allow by to on right depth) = false
lends_from p o r (Withdraw by to on right) = false
lends_from p o r (Lend by to on right depth last) = is_from p o r (loan by on right to depth last)
lends_from p o r (Recall by to on right depth last) = false
lends_from p o r (Shift by now) = false
lends_from p o r (AllowSet by set on right depth) = false
lends_from p o r (Drop by to on right depth) = false
lends_from p o r (Sweep by) = false

-- a drop: 'Lists and rows pass it over and are held to the journal only on lists without drop'
abbrev pub is_drop : Command → Bool
is_drop (Create by on) = false
is_drop (Delete by on) = false
is_drop (Allow by to on right depth) = false
is_drop (Withdraw by to on right) = false
is_drop (Lend by to on right depth last) = false
is_drop (Recall by to on right depth last) = false
is_drop (Shift by now) = false
is_drop (AllowSet by set on right depth) = false
is_drop (Drop by to on right depth) = true
is_drop (Sweep by) = false
