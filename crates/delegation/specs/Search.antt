-- The check's search, by the 64 grant bytes of the item and right and the loans picked for them, and nothing else: rounds by number of
-- loans.
-- Round k has for each person 0, or 1 + the greatest allowance of the chains to that person with exactly k loans. A loan costs one, so
-- rounds 0 to 7 have all chains. Which of the best chains with the fewest persons is written is fixed here; what it is worth is `Meets`
-- alone.
use Rattle.std.specs.Prelude.{◌≡◌, true, false, cond, List, [], ◌∷◌, ◌++◌, ℕ, zero, suc, ◌+◌, ◌-◌, ◌*◌, ◌≤◌, min, eqb, length, get_or, take, drop, replicate}
use Rattle.std.specs.Int.Count.{count_leading_zeros}
use Rattle.bits.specs.Bits.{bit}
use Rattle.bits.specs.Sets.{any, tabulate, most, first_at}
use Rattle.model.specs.Answers.{Found}
use Rattle.model.specs.Chain.{Chain}
use Rattle.delegation.specs.Loans.{lender, borrower, loan_depth}
use Rattle.delegation.specs.Picking.{picked}

-- the 64 grant bytes of one item and right, a byte for each person
unfoldable pub grants_of : List ℕ → ℕ → List ℕ
grants_of gs key = take 64 (drop (8 + 64 * key) gs)

-- a chain of the grants in 64 bytes and of loans ls: all that the search is given
abbrev pub GivenChain : List ℕ → List ℕ → List ℕ → ℕ → ℕ → Type 0
GivenChain bytes ls =
    Chain lender borrower loan_depth (λ p e. (p ≤ 63) × (bit (get_or bytes p 0) e ≡ true)) (λ w. any (eqb w) ls ≡ true)

-- 'its greatest depth is the place of its highest set bit': that place + 1, or 0 for a byte of no grant
abbrev pub height : ℕ → ℕ
height b = 8 - count_leading_zeros 8 b

-- round 0, from the 64 grant bytes
unfoldable pub grant_round : List ℕ → List ℕ
grant_round bytes = tabulate 64 (λ (p : ℕ). height (get_or bytes p 0))

-- what a loan passes on where its lender's entry is v
abbrev pub gain : ℕ → ℕ → ℕ
gain v w = min (v - 1) (loan_depth w + 1)

-- the same where the loan is to q, else 0
unfoldable pub arrive : ℕ → ℕ → ℕ → ℕ
arrive v w q = cond (eqb (borrower w) q) (gain v w) 0

-- the same of the loan in place i of ls
abbrev pub arriving : List ℕ → List ℕ → ℕ → ℕ → ℕ
arriving ls round q i = arrive (get_or round (lender (get_or ls i 0)) 0) (get_or ls i 0) q

-- one loan more
unfoldable pub next_round : List ℕ → List ℕ → List ℕ
next_round ls round = tabulate 64 (λ (q : ℕ). most (arriving ls round q) (length ls))

-- round k: k loans more than the first
unfoldable pub round_at : List ℕ → List ℕ → ℕ → List ℕ
round_at first ls zero = first
round_at first ls (suc k) = next_round ls (round_at first ls k)

-- a person's entry in each round
abbrev pub column : List (List ℕ) → ℕ → ℕ → ℕ
column rounds who k = get_or (get_or rounds k []) who 0

-- the lender of the last loan among the first n that passes v on to q; 0 where there is none
unfoldable pub lender_to : List ℕ → List ℕ → ℕ → ℕ → ℕ → ℕ
lender_to ls round q v zero = 0
lender_to ls round q v (suc i) = cond (eqb (arriving ls round q i) v) (lender (get_or ls i 0)) (lender_to ls round q v i)

-- the persons of a chain with k loans to q, read off the rounds from its end
unfoldable pub traced : List (List ℕ) → List ℕ → ℕ → ℕ → List ℕ
traced rounds ls zero q = q ∷ []
traced rounds ls (suc k) q =
    traced rounds ls k (lender_to ls (get_or rounds k []) q (column rounds q (suc k)) (length ls)) ++ (q ∷ [])

-- ---- the search for a person, by 64 grant bytes and loans ls
unfoldable pub rounds_of : List ℕ → List ℕ → List (List ℕ)
rounds_of bytes ls = tabulate 8 (round_at (grant_round bytes) ls)

-- 0, or the greatest allowance + 1
unfoldable pub height_of : List ℕ → List ℕ → ℕ → ℕ
height_of bytes ls who = most (column (rounds_of bytes ls) who) 8

-- the loans of the chain that is written: the first round with the greatest entry has it
unfoldable pub length_of : List ℕ → List ℕ → ℕ → ℕ
length_of bytes ls who = first_at (column (rounds_of bytes ls) who) 8

-- 'Among chains with the greatest allowance .. one with the fewest persons': how many these are where a chain exists
abbrev pub fewest_persons : List ℕ → List ℕ → ℕ → ℕ
fewest_persons bytes ls who = length_of bytes ls who + 1

-- what is found
unfoldable pub best_of : List ℕ → List ℕ → ℕ → Found
best_of bytes ls who =
    cond (eqb (height_of bytes ls who) 0) (record { yes = false; depth = 0; persons = 0 })
    (record { yes = true; depth = height_of bytes ls who - 1; persons = fewest_persons bytes ls who })

-- the chain buffer: 'p0 first, 255 after the end'; 'on no, all 8 bytes are 255'
unfoldable pub best_chain : List ℕ → List ℕ → ℕ → List ℕ
best_chain bytes ls who =
    cond (eqb (height_of bytes ls who) 0) (replicate 8 255)
    (traced (rounds_of bytes ls) ls (length_of bytes ls who) who ++ replicate (7 - length_of bytes ls who) 255)

-- ---- the check of a person, by the grants image gs and the loans image t: the loans are picked, then the search begins
unfoldable pub found_of : List ℕ → List ℕ → ℕ → ℕ → Found
found_of gs t key who = best_of (grants_of gs key) (picked t key) who

-- and its chain buffer
unfoldable pub chain_of : List ℕ → List ℕ → ℕ → ℕ → List ℕ
chain_of gs t key who = best_chain (grants_of gs key) (picked t key) who
