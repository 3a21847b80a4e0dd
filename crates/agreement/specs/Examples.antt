-- Document 01's handover examples E1 to E12, as one table over the journal, and document 02's shifts, allowset, drop, what becomes of
-- loans, the fewest persons and sweep in rows of their own.
use Rattle.std.specs.Prelude.{Bool, ◌&&◌, cond, List, [], ◌∷◌, ◌++◌, map, ℕ, zero, suc, ◌-◌, min, max, length, take, replicate, eqb, leb}
use Rattle.model.specs.declared.Command.{Command}
use Rattle.model.specs.declared.Command.TheVariants.{Create, Delete, Allow, Withdraw, Lend, Recall, Shift, AllowSet, Drop, Sweep}
use Rattle.bits.specs.Sets.{all, keep}
use Rattle.model.specs.Commands.{is_sweep}
use Rattle.model.specs.Answers.{Found, flat}
use Rattle.layouts.specs.Machine.{answer_of, counted_of}
use Rattle.model.specs.Journal.{Grant, Loan, Journal, carries, answered, counted, has_grant, fresh, run}
use Rattle.layouts.specs.Layouts.{Layout, flat_unit, check_yes, lists, rows}
use Rattle.delegation.specs.ChainUnit.{chain_unit, chain_found, chain_buffer}
use Rattle.agreement.specs.Agreement.{Units, called, fresh_units, flat_step, fed}

-- ---- every chain of a journal, listed: its persons, p0 first, the last of them, and its last allowance
pub record Route : Type 0 where
  pub persons : List ℕ
  pub last : ℕ
  pub allowance : ℕ

-- a route by its parts
abbrev pub route : List ℕ → ℕ → ℕ → Route
route ps p a = record { persons = ps; last = p; allowance = a }

-- a route of one person: a grant
abbrev pub start : Grant → Route
start g = route (g.person ∷ []) g.person g.depth

-- the loan follows the route: it is by its last person, and there is allowance left
abbrev pub extends : Loan → Route → Bool
extends l t = eqb t.last l.lender && leb 1 t.allowance

-- the route with the loan
abbrev pub onward : Loan → Route → Route
onward l t = route (t.persons ++ (l.borrower ∷ [])) l.borrower (min (t.allowance - 1) l.depth)

-- the routes that these loans make of those
unfoldable pub extended : List Loan → List Route → List Route
extended [] ts = []
extended (l ∷ ls) ts = map (onward l) (keep (extends l) ts) ++ extended ls ts

module _ (j : Journal) (o r : ℕ) where
  -- a loan on that item and right that carries
  abbrev pub serves : Loan → Bool
  serves l = eqb l.item o && eqb l.right r && carries j.shift l.last

  -- those with k loans, on item o and right r
  unfoldable pub routes : ℕ → List Route
  routes zero = map start (keep (λ (g : Grant). eqb g.item o && eqb g.right r) j.grants)
  routes (suc k) = extended (keep serves j.loans) (routes k)

  -- all with at most n loans
  unfoldable pub routes_to : ℕ → List Route
  routes_to zero = routes zero
  routes_to (suc n) = routes_to n ++ routes (suc n)

-- ---- questions and answers
pub data Question : Type 0 where
  asks : Command → Question
  checks : ℕ → Question

-- a command's number, of sweep with its count, or that it is passed over; a check's no, its yes without a depth, or its yes with the
-- greatest allowance and the persons of every chain that has it and the fewest persons
pub data Said : Type 0 where
  number : ℕ → Said
  swept : ℕ → ℕ → Said
  passed : Said
  no : Said
  flat_yes : Said
  yes : ℕ → List (List ℕ) → Said

-- the greatest last allowance among some routes
unfoldable pub highest : List Route → ℕ
highest [] = 0
highest (t ∷ ts) = max t.allowance (highest ts)

-- those of some routes than which none has fewer persons
unfoldable pub shortest : List Route → List Route
shortest ts = keep (λ (u : Route). all (λ (t : Route). leb (length u.persons) (length t.persons)) ts) ts

-- what some routes to one person say: no where there is none, else the greatest allowance and the persons of the shortest that have it
unfoldable pub best : List Route → Said
best [] = no
best (t ∷ ts) =
    yes (highest (t ∷ ts)) (map (λ (u : Route). u.persons) (shortest (keep (λ u. eqb u.allowance (highest (t ∷ ts))) (t ∷ ts))))

-- a command's number n, of sweep with the count k
abbrev pub told : Command → ℕ → ℕ → Said
told c n k = cond (is_sweep c) (swept n k) (number n)

-- 'on 9 and right 1'
abbrev pub said : Journal → Question → Said
said j (asks c) = told c (answered j c) (counted j c)
said j (checks p) = best (keep (λ t. eqb t.last p) (routes_to j 9 1 7))

-- what lists and rows say: they pass over what they lack, and know grants alone
abbrev pub flat_said : Journal → Question → Said
flat_said j (asks c) = cond (flat c) (number (answered j c)) passed
flat_said j (checks p) = cond (has_grant j p 9 1) flat_yes no

-- commands after the base, a question, what the journal and a chain unit say, and what lists and rows say
pub record Example : Type 0 where
  pub first : List Command
  pub question : Question
  pub expected : Said
  pub flat : Said

abbrev row : List Command → Question → Said → Said → Example
row cs q s f = record { first = cs; question = q; expected = s; flat = f }

-- 'Base: 0 creates 3, 4, 5, 9; allows 3 on 9, right 1, depth 2; 3 lends to 4 depth 1; 4 lends to 5 depth 0'
unfoldable pub base : List Command
base = Create 0 3 ∷ Create 0 4 ∷ Create 0 5 ∷ Create 0 9 ∷ Allow 0 3 9 1 2 ∷ Lend 3 4 9 1 1 0 ∷ Lend 4 5 9 1 0 0 ∷ []

-- in shift 2, 3 lends to 0 with last shift 2
unfoldable pub lent_for2 : List Command
lent_for2 = Shift 0 2 ∷ Lend 3 0 9 1 1 2 ∷ []

-- 3 has the depths 0, 3 and 7 on 9, right 1
unfoldable pub three_depths : List Command
three_depths = Allow 0 3 9 1 0 ∷ Allow 0 3 9 1 3 ∷ Allow 0 3 9 1 7 ∷ Drop 0 3 9 1 2 ∷ []

-- 3 has depth 7 alone there
unfoldable pub depth7 : List Command
depth7 = Allow 0 3 9 1 7 ∷ Drop 0 3 9 1 2 ∷ []

-- then eight persons, the first of them 3 and the last 10, each of whom lends to the next as deep as can be
unfoldable pub eight_persons : List Command
eight_persons =
    depth7
    ++ (Create 0 6 ∷ Create 0 7 ∷ Create 0 8 ∷ Create 0 10 ∷ Lend 3 4 9 1 7 0 ∷ Lend 4 5 9 1 7 0 ∷ Lend 5 6 9 1 7 0
    ∷ Lend 6 7 9 1 7 0 ∷ Lend 7 8 9 1 7 0 ∷ Lend 8 0 9 1 7 0 ∷ Lend 0 10 9 1 7 0 ∷ [])

-- the paper's examples, a row each, in its order
unfoldable pub examples : List Example
examples =
    -- E1 to E3
    row [] (checks 5) (yes 0 ((3 ∷ 4 ∷ 5 ∷ []) ∷ [])) no
    ∷ row [] (checks 4) (yes 1 ((3 ∷ 4 ∷ []) ∷ [])) no
    ∷ row [] (checks 0) no no
    -- E4
    ∷ row [] (asks (Recall 3 4 9 1 0 0)) (number 0) passed
    ∷ row (Recall 3 4 9 1 0 0 ∷ []) (checks 4) (yes 1 ((3 ∷ 4 ∷ []) ∷ [])) no
    -- E5, as document 02 has it: 'after the new allow, 4 is no'
    ∷ row [] (asks (Withdraw 0 3 9 1)) (number 0) (number 0)
    ∷ row (Withdraw 0 3 9 1 ∷ []) (checks 5) no no
    ∷ row (Withdraw 0 3 9 1 ∷ Allow 0 3 9 1 1 ∷ []) (checks 4) no no
    ∷ row (Withdraw 0 3 9 1 ∷ Allow 0 3 9 1 1 ∷ []) (checks 5) no no
    -- E6
    ∷ row (Lend 3 5 9 1 5 0 ∷ []) (checks 5) (yes 1 ((3 ∷ 5 ∷ []) ∷ [])) no
    -- E7
    ∷ row (Delete 0 4 ∷ Create 0 4 ∷ []) (checks 4) no no
    -- E8 and E9
    ∷ row [] (asks (Create 0 63)) (number 0) (number 0)
    ∷ row [] (asks (Create 0 64)) (number 3) (number 3)
    ∷ row [] (asks (Create 0 3)) (number 6) (number 6)
    -- E10 to E12
    ∷ row [] (asks (Delete 3 0)) (number 7) (number 7)
    ∷ row [] (asks (Allow 3 4 9 1 0)) (number 8) (number 8)
    ∷ row [] (asks (Create 7 3)) (number 4) (number 4)
    -- the base's one grant on 9 and right 1, and what is left of it in E5: what lists and rows can say yes to
    ∷ row [] (checks 3) (yes 2 ((3 ∷ []) ∷ [])) flat_yes
    ∷ row (Withdraw 0 3 9 1 ∷ []) (checks 3) no no
    ∷ row (Withdraw 0 3 9 1 ∷ Allow 0 3 9 1 1 ∷ []) (checks 3) (yes 1 ((3 ∷ []) ∷ [])) flat_yes
    -- 'A loan carries only while open-ended or not past its last shift': in its last shift, not in the next; open-ended in any
    ∷ row lent_for2 (checks 0) (yes 1 ((3 ∷ 0 ∷ []) ∷ [])) no
    ∷ row (lent_for2 ++ (Shift 0 3 ∷ [])) (checks 0) no no
    ∷ row (Shift 0 255 ∷ []) (checks 4) (yes 1 ((3 ∷ 4 ∷ []) ∷ [])) no
    -- '13, for lend only, when last is set and below the present shift': at its boundary, of a standing loan too, and not of recall
    ∷ row (Shift 0 2 ∷ []) (asks (Lend 3 0 9 1 1 2)) (number 0) passed
    ∷ row (Shift 0 2 ∷ []) (asks (Lend 3 0 9 1 1 1)) (number 13) passed
    ∷ row (Shift 0 2 ∷ []) (asks (Lend 3 0 9 1 1 0)) (number 0) passed
    ∷ row (lent_for2 ++ (Shift 0 3 ∷ [])) (asks (Lend 3 0 9 1 1 2)) (number 13) passed
    ∷ row (lent_for2 ++ (Shift 0 3 ∷ [])) (asks (Recall 3 0 9 1 1 2)) (number 0) passed
    ∷ row (Shift 0 2 ∷ []) (asks (Lend 3 0 9 0 1 1)) (number 9) passed
    -- '12 when the new shift is below the present one and such a loan stands': at its boundary, of a loan that is past too, after 8
    ∷ row lent_for2 (asks (Shift 0 2)) (number 0) passed
    ∷ row lent_for2 (asks (Shift 0 1)) (number 12) passed
    ∷ row (lent_for2 ++ (Shift 0 3 ∷ [])) (asks (Shift 0 2)) (number 12) passed
    ∷ row lent_for2 (asks (Shift 3 1)) (number 8) passed
    ∷ row lent_for2 (asks (Shift 7 1)) (number 4) passed
    -- 'The shift may start again lower once no loan with a last shift stands'
    ∷ row (Shift 0 2 ∷ []) (asks (Shift 0 1)) (number 0) passed
    ∷ row (lent_for2 ++ (Shift 0 3 ∷ Recall 3 0 9 1 1 2 ∷ [])) (asks (Shift 0 1)) (number 0) passed
    -- the same loan with two last shifts is two loans
    ∷ row (lent_for2 ++ (Lend 3 0 9 1 1 3 ∷ Shift 0 3 ∷ [])) (checks 0) (yes 1 ((3 ∷ 0 ∷ []) ∷ [])) no
    ∷ row (lent_for2 ++ (Lend 3 0 9 1 1 3 ∷ Recall 3 0 9 1 1 2 ∷ [])) (checks 0) (yes 1 ((3 ∷ 0 ∷ []) ∷ [])) no
    ∷ row (lent_for2 ++ (Lend 3 0 9 1 1 3 ∷ Recall 3 0 9 1 1 3 ∷ Shift 0 3 ∷ [])) (checks 0) no no
    -- 'Number 3 also covers a shift above 255'
    ∷ row [] (asks (Lend 3 0 9 1 1 255)) (number 0) passed
    ∷ row [] (asks (Lend 3 0 9 1 1 256)) (number 3) passed
    ∷ row [] (asks (Recall 3 0 9 1 1 256)) (number 3) passed
    ∷ row [] (asks (Shift 0 256)) (number 3) passed
    -- 'It does what the single allows do': to 4 and 5 (bits 4 and 5 are 48) at a depth of their own, and to nobody else; again it
    -- changes nothing; to whoever gives the command; of a right and a depth at their limits
    ∷ row [] (asks (AllowSet 0 48 9 1 3)) (number 0) (number 0)
    ∷ row (AllowSet 0 48 9 1 3 ∷ []) (checks 4) (yes 3 ((4 ∷ []) ∷ [])) flat_yes
    ∷ row (AllowSet 0 48 9 1 3 ∷ []) (checks 5) (yes 3 ((5 ∷ []) ∷ [])) flat_yes
    ∷ row (AllowSet 0 48 9 1 3 ∷ []) (checks 0) no no
    ∷ row (AllowSet 0 48 9 1 3 ∷ AllowSet 0 48 9 1 3 ∷ Withdraw 0 4 9 1 ∷ []) (checks 5) (yes 3 ((5 ∷ []) ∷ [])) flat_yes
    ∷ row (AllowSet 0 1 9 1 0 ∷ []) (checks 0) (yes 0 ((0 ∷ []) ∷ [])) flat_yes
    ∷ row [] (asks (AllowSet 0 48 9 7 7)) (number 0) (number 0)
    ∷ row (Create 0 63 ∷ AllowSet 0 9223372036854775809 9 1 0 ∷ []) (checks 63) (yes 0 ((63 ∷ []) ∷ [])) flat_yes
    -- 'or nothing, with the lowest refusal's number, if any of them is refused': 6 is dead
    ∷ row [] (asks (AllowSet 0 112 9 1 3)) (number 5) (number 5)
    ∷ row (AllowSet 0 112 9 1 3 ∷ []) (checks 4) (yes 1 ((3 ∷ 4 ∷ []) ∷ [])) no
    ∷ row [] (asks (AllowSet 0 48 7 1 3)) (number 5) (number 5)
    ∷ row [] (asks (AllowSet 7 112 9 1 3)) (number 4) (number 4)
    ∷ row [] (asks (AllowSet 3 112 9 1 3)) (number 5) (number 5)
    ∷ row [] (asks (AllowSet 3 48 9 1 3)) (number 8) (number 8)
    -- '14 when the set is empty, straight after 3'
    ∷ row [] (asks (AllowSet 0 0 9 1 3)) (number 14) (number 14)
    ∷ row [] (asks (AllowSet 7 0 6 1 3)) (number 14) (number 14)
    ∷ row [] (asks (AllowSet 7 0 64 1 3)) (number 3) (number 3)
    ∷ row [] (asks (AllowSet 0 0 9 8 3)) (number 3) (number 3)
    ∷ row [] (asks (AllowSet 0 48 9 1 8)) (number 3) (number 3)
    -- '`drop` .. ends one grant': the greatest depth is then the greatest that still stands. Lists and rows pass it over
    ∷ row three_depths (asks (Drop 0 3 9 1 7)) (number 0) passed
    ∷ row (three_depths ++ (Drop 0 3 9 1 7 ∷ [])) (checks 3) (yes 3 ((3 ∷ []) ∷ [])) flat_yes
    ∷ row (three_depths ++ (Drop 0 3 9 1 7 ∷ [])) (checks 4) (yes 1 ((3 ∷ 4 ∷ []) ∷ [])) no
    ∷ row (three_depths ++ (Drop 0 3 9 1 7 ∷ Drop 0 3 9 1 3 ∷ [])) (checks 3) (yes 0 ((3 ∷ []) ∷ [])) flat_yes
    ∷ row (three_depths ++ (Drop 0 3 9 1 7 ∷ Drop 0 3 9 1 3 ∷ [])) (checks 4) no no
    ∷ row (three_depths ++ (Drop 0 3 9 1 0 ∷ [])) (checks 3) (yes 7 ((3 ∷ []) ∷ [])) flat_yes
    -- a depth that does not stand: nothing ends
    ∷ row three_depths (asks (Drop 0 3 9 1 5)) (number 0) passed
    ∷ row (three_depths ++ (Drop 0 3 9 1 5 ∷ [])) (checks 3) (yes 7 ((3 ∷ []) ∷ [])) flat_yes
    -- of the only depth: the drawer is closed as by withdraw, but not for lists and rows
    ∷ row (Drop 0 3 9 1 2 ∷ []) (checks 3) no flat_yes
    ∷ row (Drop 0 3 9 1 2 ∷ []) (checks 5) no no
    ∷ row (Drop 0 3 9 1 2 ∷ Allow 0 3 9 1 1 ∷ []) (checks 4) no no
    -- 'drop has withdraw's refusals and 3 for the depth'
    ∷ row [] (asks (Drop 0 3 9 1 7)) (number 0) passed
    ∷ row [] (asks (Drop 7 3 7 1 8)) (number 3) passed
    ∷ row [] (asks (Drop 7 7 9 1 2)) (number 4) passed
    ∷ row [] (asks (Drop 3 7 9 1 2)) (number 5) passed
    ∷ row [] (asks (Drop 3 3 7 1 2)) (number 5) passed
    ∷ row [] (asks (Drop 3 3 9 1 2)) (number 8) passed
    -- the last edit grant dropped: 8 from then on, while lists and rows go on
    ∷ row (Drop 0 0 9 0 0 ∷ []) (asks (Allow 0 4 9 1 0)) (number 8) (number 0)
    ∷ row (Drop 0 0 9 0 0 ∷ []) (asks (Drop 0 3 9 1 2)) (number 8) passed
    -- 'withdraw is eight drops, checked once before the first': one's own edit grants too, of two depths
    ∷ row (Allow 0 0 9 0 3 ∷ []) (asks (Withdraw 0 0 9 0)) (number 0) (number 0)
    ∷ row (Allow 0 0 9 0 3 ∷ Withdraw 0 0 9 0 ∷ []) (asks (Allow 0 4 9 1 0)) (number 8) (number 8)
    -- 'when a person's last grant on an item and right ends .., the loans that person made there end too': lent anew they carry
    ∷ row (Withdraw 0 3 9 1 ∷ Allow 0 3 9 1 1 ∷ Lend 3 4 9 1 1 0 ∷ []) (checks 4) (yes 0 ((3 ∷ 4 ∷ []) ∷ [])) no
    -- 'loans further down stay': 4's carries again through a grant of 4's own
    ∷ row (Withdraw 0 3 9 1 ∷ Allow 0 4 9 1 1 ∷ []) (checks 5) (yes 0 ((4 ∷ 5 ∷ []) ∷ [])) no
    -- only where a grant ends: 4 has none, and lent; nor by a refused withdraw, or a drop of a depth that does not stand
    ∷ row [] (asks (Withdraw 0 4 9 1)) (number 0) (number 0)
    ∷ row (Withdraw 0 4 9 1 ∷ []) (checks 5) (yes 0 ((3 ∷ 4 ∷ 5 ∷ []) ∷ [])) no
    ∷ row (Withdraw 3 3 9 1 ∷ []) (checks 4) (yes 1 ((3 ∷ 4 ∷ []) ∷ [])) no
    ∷ row (Drop 0 3 9 1 5 ∷ []) (checks 4) (yes 1 ((3 ∷ 4 ∷ []) ∷ [])) no
    -- only where it is the last: one of two depths, then the other
    ∷ row (Allow 0 3 9 1 5 ∷ Drop 0 3 9 1 2 ∷ []) (checks 4) (yes 1 ((3 ∷ 4 ∷ []) ∷ [])) no
    ∷ row (Allow 0 3 9 1 5 ∷ Drop 0 3 9 1 2 ∷ Drop 0 3 9 1 5 ∷ Allow 0 3 9 1 2 ∷ []) (checks 4) no no
    -- only there: a grant of another right
    ∷ row (Allow 0 3 9 2 2 ∷ Withdraw 0 3 9 2 ∷ []) (checks 4) (yes 1 ((3 ∷ 4 ∷ []) ∷ [])) no
    -- with a last shift and past it too: none is left that bars a lower shift
    ∷ row (lent_for2 ++ (Shift 0 3 ∷ Withdraw 0 3 9 1 ∷ [])) (asks (Shift 0 1)) (number 0) passed
    ∷ row (lent_for2 ++ (Shift 0 3 ∷ Drop 0 3 9 1 2 ∷ [])) (asks (Shift 0 1)) (number 0) passed
    -- 'Among chains with the greatest allowance the check now gives one with the fewest persons': a direct loan beside the chain of three
    -- with the same end, and an own grant beside both
    ∷ row (Lend 3 5 9 1 0 0 ∷ []) (checks 5) (yes 0 ((3 ∷ 5 ∷ []) ∷ [])) no
    ∷ row (Lend 3 5 9 1 0 0 ∷ Allow 0 5 9 1 0 ∷ []) (checks 5) (yes 0 ((5 ∷ []) ∷ [])) flat_yes
    -- the greatest allowance comes first: the chain of three to 5 ends with 2, past an own grant of depth 0 and a direct loan of depth 1
    ∷ row (Allow 0 3 9 1 4 ∷ Lend 3 4 9 1 3 0 ∷ Lend 4 5 9 1 2 0 ∷ Lend 3 5 9 1 1 0 ∷ Allow 0 5 9 1 0 ∷ []) (checks 5)
    (yes 2 ((3 ∷ 4 ∷ 5 ∷ []) ∷ [])) flat_yes
    -- equal depths, the shorter one a loan with a last shift: in that shift, and in the next
    ∷ row (Shift 0 2 ∷ Lend 3 5 9 1 0 2 ∷ []) (checks 5) (yes 0 ((3 ∷ 5 ∷ []) ∷ [])) no
    ∷ row (Shift 0 2 ∷ Lend 3 5 9 1 0 2 ∷ Shift 0 3 ∷ []) (checks 5) (yes 0 ((3 ∷ 4 ∷ 5 ∷ []) ∷ [])) no
    -- a loop: 4 lends back to 3, who has lent to 5; the chain 3,4,3,5 ends with 0 too
    ∷ row (depth7 ++ (Lend 3 4 9 1 7 0 ∷ Lend 4 3 9 1 7 0 ∷ Recall 4 5 9 1 0 0 ∷ Lend 3 5 9 1 0 0 ∷ [])) (checks 5)
    (yes 0 ((3 ∷ 5 ∷ []) ∷ [])) no
    -- the longest, 8; and with a direct loan beside it
    ∷ row eight_persons (checks 10) (yes 0 ((3 ∷ 4 ∷ 5 ∷ 6 ∷ 7 ∷ 8 ∷ 0 ∷ 10 ∷ []) ∷ [])) no
    ∷ row (eight_persons ++ (Lend 3 10 9 1 0 0 ∷ [])) (checks 10) (yes 0 ((3 ∷ 10 ∷ []) ∷ [])) no
    -- sweep 'ends all loans past their last shift .. and returns how many there were': none where none has one, none in its last shift, one
    -- in the next; by anybody who lives; two of five, the others open-ended or in their last shift
    ∷ row [] (asks (Sweep 0)) (swept 0 0) passed
    ∷ row lent_for2 (asks (Sweep 0)) (swept 0 0) passed
    ∷ row (lent_for2 ++ (Shift 0 3 ∷ [])) (asks (Sweep 0)) (swept 0 1) passed
    ∷ row (lent_for2 ++ (Shift 0 3 ∷ [])) (asks (Sweep 5)) (swept 0 1) passed
    ∷ row (lent_for2 ++ (Lend 3 0 9 1 0 2 ∷ Lend 3 0 9 1 1 3 ∷ Shift 0 3 ∷ [])) (asks (Sweep 0)) (swept 0 2) passed
    -- those stay and carry; a second one finds none
    ∷ row (lent_for2 ++ (Lend 3 0 9 1 1 3 ∷ Shift 0 3 ∷ Sweep 0 ∷ [])) (checks 0) (yes 1 ((3 ∷ 0 ∷ []) ∷ [])) no
    ∷ row (lent_for2 ++ (Shift 0 3 ∷ Sweep 0 ∷ [])) (checks 5) (yes 0 ((3 ∷ 4 ∷ 5 ∷ []) ∷ [])) no
    ∷ row (lent_for2 ++ (Shift 0 3 ∷ Sweep 0 ∷ [])) (asks (Sweep 0)) (swept 0 0) passed
    -- '(numbers 1 to 4)', and 'whatever else it returns is 0': by somebody dead, and beyond the items; then the loan still stands
    ∷ row (lent_for2 ++ (Shift 0 3 ∷ [])) (asks (Sweep 7)) (swept 4 0) passed
    ∷ row (lent_for2 ++ (Shift 0 3 ∷ [])) (asks (Sweep 64)) (swept 3 0) passed
    ∷ row (lent_for2 ++ (Shift 0 3 ∷ Sweep 7 ∷ [])) (asks (Shift 0 2)) (number 12) passed
    -- the way back is clear for the shift, and what was swept does not come back with it
    ∷ row (lent_for2 ++ (Shift 0 3 ∷ Sweep 0 ∷ [])) (asks (Shift 0 2)) (number 0) passed
    ∷ row (lent_for2 ++ (Shift 0 3 ∷ Sweep 0 ∷ Shift 0 2 ∷ [])) (checks 0) no no
    ∷ []

-- what the journal says after an example's commands
abbrev pub outcome : Example → Said
outcome e = said (run fresh (base ++ e.first)) e.question

-- what lists and rows should say, by the journal of the commands that they have
abbrev pub flat_outcome : Example → Said
flat_outcome e = flat_said (fed flat_step fresh (base ++ e.first)) e.question

-- ---- the same of the units
unfoldable pub calls : Units → List Command → Units
calls u [] = u
calls u (c ∷ cs) = calls (called u c) cs

-- the three units after an example's commands
abbrev pub units_after : Example → Units
units_after e = calls fresh_units (base ++ e.first)

-- what was found, with the chain that was written
abbrev pub said_of : Found → List ℕ → Said
said_of f buffer = cond f.yes (yes f.depth (take f.persons buffer ∷ [])) no

-- the chain unit, with a chain buffer of zeros
abbrev pub chain_said : Units → Question → Said
chain_said u (asks c) = told c (answer_of chain_unit u.chains c) (counted_of chain_unit u.chains c)
chain_said u (checks p) = said_of (chain_found u.chains (replicate 8 0) p 9 1) (chain_buffer u.chains (replicate 8 0) p 9 1)

-- what the chain unit says to an example's question
abbrev pub chain_outcome : Example → Said
chain_outcome e = chain_said (units_after e) e.question

-- lists and rows
abbrev pub unit_said : Layout → List ℕ → Question → Said
unit_said L s (asks c) = cond (flat c) (number (answer_of (flat_unit L) s c)) passed
unit_said L s (checks p) = cond (check_yes L s p 9 1) flat_yes no

-- the same of lists
abbrev pub list_outcome : Example → Said
list_outcome e = unit_said lists (units_after e).lists e.question

-- and of rows
abbrev pub row_outcome : Example → Said
row_outcome e = unit_said rows (units_after e).rows e.question
