-- Demand 2: a check that is not refused decides what the rules of document 002 derive from the images. All is said of what the
-- check's contract names: its number, what it found and the chain buffer after it.
use mathlib.Core.Path.{◌≡◌, sym, ap, ◌∙◌}
use mathlib.Core.Bool.{Bool, true, false, ◌&&◌, false≢true}
use mathlib.Core.Logic.{◌↔◌}
use mathlib.Core.List.{List}
use Prim.Native.Nat.{ℕ, ◌+◌, ◌*◌, ◌≤◌, ◌<◌}
use lib.ListN.{length, get_or, take}
use lib.Dec.{eqb, leb}
use Rattle.model.specs.Answers.{asked}
use Rattle.model.specs.Journal.{grant}
use Rattle.model.specs.Commands.{depths}
use Rattle.layouts.specs.Layouts.{Layout, live_in, grant_bit, held, is_in_order, grant_bytes, check_number, check_yes}
use Rattle.model.specs.Chain.{Access, Shortest, FewestPersons, NobodyTwice, Meets}
use Rattle.bits.specs.Bits.{bit}
use Rattle.bits.specs.Sets.{any}
use Rattle.delegation.specs.Loans.{lender, borrower, loan_depth, rising, used, loans_in_order}
use Rattle.delegation.specs.Images.{Images, standing_in, WordCarries, ImageChain}
use Rattle.delegation.specs.Picking.{picked, Picked}
use Rattle.delegation.specs.Search.{grants_of, best_of, best_chain, found_of, chain_of}
use Rattle.delegation.specs.ChainUnit.{chain_sized, chain_in_order, chain_check_number, chain_found, chain_buffer}
use Rattle.bits.proofs.Sets.{fst, snd, both, by_cases, find}
use Rattle.model.proofs.Invariant.{passed, asked_in, asked_limits}
use Rattle.model.proofs.Chain.{meets_access, meets-persons, shortest_exists, given, nobody_twice}
use Rattle.layouts.specs.Laws.{Laws}
use Rattle.model.proofs.Commands.{small}
use Rattle.layouts.proofs.Layouts.{order-live}
use Rattle.delegation.proofs.Picking.{picked-are_these, picked-only}
use Rattle.delegation.proofs.Search.{best-meets, meets, dead_no}

-- what the four rules derive from the grants and carrying loans of the images
abbrev pub ImageAccess : Images → ℕ → ℕ → ℕ → ℕ → Type 0
ImageAccess s = Access lender borrower loan_depth (λ p o r d. standing_in s.grants (grant p o r d) ≡ true) (WordCarries s.loans)

-- what they derive from 64 grant bytes and some loans, on the one item and right that these are of
abbrev pub GivenAccess : List ℕ → List ℕ → ℕ → ℕ → ℕ → ℕ → Type 0
GivenAccess bytes ls =
    Access lender borrower loan_depth (λ p o r d. (p ≤ 63) × (bit (get_or bytes p 0) d ≡ true)) (λ o r w. any (eqb w) ls ≡ true)

-- the search alone, by what it is given
pub best_decides : (bytes : List ℕ) → ((i : ℕ) → i < 64 → get_or bytes i 0 < 256) → (ls : List ℕ) (p o r : ℕ) → p ≤ 63 → (d : ℕ)
    → GivenAccess bytes ls p o r d ↔ ((best_of bytes ls p).yes ≡ true) × (d ≤ (best_of bytes ls p).depth)
best_decides bytes small ls p o r hp d =
    meets_access lender borrower loan_depth (λ p o r d. (p ≤ 63) × (bit (get_or bytes p 0) d ≡ true)) (λ o r w. any (eqb w) ls ≡ true) p o r
    (best-meets bytes small ls p hp) d

-- the check, of any images, in order or not
pub search_decides : (s : Images) → ((i : ℕ) → get_or s.grants i 0 < 256) → (p o r : ℕ) → p ≤ 63 → o ≤ 63 → r ≤ 7 → (d : ℕ)
    → ImageAccess s p o r d ↔ ((found_of s.grants s.loans (8 * o + r) p).yes ≡ true)
    × (d ≤ (found_of s.grants s.loans (8 * o + r) p).depth)
search_decides s bytes p o r hp ho hr d =
    meets_access lender borrower loan_depth (λ p o r d. standing_in s.grants (grant p o r d) ≡ true) (WordCarries s.loans) p o r
    (meets s bytes o r ho hr p hp) d

loans-rise : (live : ℕ → Bool) (t : List ℕ) → loans_in_order live t ≡ true → rising (used t) ≡ true
unfolding loans_in_order
loans-rise live t h = search (fst, snd)

-- the check of person p on item o, right r
module _ (s : Images) (bytes : (i : ℕ) → get_or s.grants i 0 < 256) (buffer : List ℕ) (p o r : ℕ)
    (free : chain_check_number s buffer p o r ≡ 0) where
  judged : (chain_in_order s ≡ true) × (asked p o r ≡ 0)
  judged = passed 1 (chain_in_order s) _ (passed 0 (chain_sized s (eqb (length buffer) 8)) _ free).1

  -- 'Those picked are proved to be exactly these loans, each once and rising': there are such loans, and
  pub check_picks : Picked s.loans o r (picked s.loans (8 * o + r))
  check_picks =
      picked-are_these s.loans o r (asked_limits p o r judged.1).2
      (loans-rise _ s.loans (snd (is_in_order grant_bytes s.grants) _ judged.0))

  -- 'the search is given no other loan': whatever list is these, the answer and the chain are the search's by it and by the grant bytes of
  -- the item and right
  pub check_searches : (ls : List ℕ) → Picked s.loans o r ls
      → (chain_found s buffer p o r ≡ best_of (grants_of s.grants (8 * o + r)) ls p)
      × (chain_buffer s buffer p o r ≡ best_chain (grants_of s.grants (8 * o + r)) ls p)
  unfolding found_of chain_of
  check_searches ls these =
      let e = picked-only s.loans o r (picked s.loans (8 * o + r)) ls check_picks these in
      rw free (ap (λ (x : List ℕ). best_of (grants_of s.grants (8 * o + r)) x p) e, ap (λ (x : List ℕ). best_chain (grants_of s.grants (8 * o + r)) x p) e)

  -- yes exactly when a chain exists, with the greatest last allowance of any, and the bytes of one that has it and the fewest persons
  pub check_meets : Meets (λ ps a. ImageChain s o r ps p a) (chain_found s buffer p o r) (chain_buffer s buffer p o r)
  check_meets =
      let b = asked_limits p o r judged.1 in
      rw free (meets s bytes o r b.1 b.2 p b.0)

  -- yes exactly when the rules derive the access, with the greatest depth derivable
  pub rules_decide : (d : ℕ) → ImageAccess s p o r d ↔ ((chain_found s buffer p o r).yes ≡ true) × (d ≤ (chain_found s buffer p o r).depth)
  rules_decide d =
      meets_access lender borrower loan_depth (λ p o r d. standing_in s.grants (grant p o r d) ≡ true)
      (WordCarries s.loans) p o r check_meets d

  -- the greatest allowance exists when any does, and the fewest persons that have it
  pub image-shortest : {ps : List ℕ} {a : ℕ} → ImageChain s o r ps p a → Shortest (λ qs b. ImageChain s o r qs p b)
  image-shortest c = shortest_exists check_meets c

  -- the number of persons is the fewest of a best chain
  pub persons_decide : (n : ℕ) → FewestPersons (λ ps a. ImageChain s o r ps p a) n
      ↔ ((chain_found s buffer p o r).yes ≡ true) × ((chain_found s buffer p o r).persons ≡ n)
  persons_decide n = meets-persons check_meets n

  -- the chain that is written names nobody twice
  pub check_nobody_twice : (chain_found s buffer p o r).yes ≡ true
      → NobodyTwice (take (chain_found s buffer p o r).persons (chain_buffer s buffer p o r))
  check_nobody_twice y = nobody_twice (given check_meets y)

  -- 'A question about dead items is answered no'
  pub dead_answered-no : live_in grant_bytes s.grants p && live_in grant_bytes s.grants o ≡ false → (chain_found s buffer p o r).yes ≡ false
  dead_answered-no dead =
      let g : is_in_order grant_bytes s.grants ≡ true = fst _ (loans_in_order (live_in grant_bytes s.grants) s.loans) judged.0 in
      let l : loans_in_order (live_in grant_bytes s.grants) s.loans ≡ true = snd (is_in_order grant_bytes s.grants) _ judged.0 in
      by_cases (chain_found s buffer p o r).yes
      (λ y. let k = dead_no s g l (check_meets.shown y) in absurd (false≢true (sym dead ∙ both k.0 k.1))) (λ n. n)

-- the same of lists and rows
module _ (L : Layout) (W : Laws L) (s : List ℕ) (p o r : ℕ) (free : check_number L s p o r ≡ 0) where
  pub dead_held-no : live_in L s p && live_in L s o ≡ false → check_yes L s p o r ≡ false
  dead_held-no dead =
      let j = passed 1 (is_in_order L s) _ (passed 0 (eqb (length s) L.cells) _ free).1 in
      let h = asked_in p o r j.1 in
      rw free
      (by_cases (held L s p o r)
      (λ y. let f = find (λ d. grant_bit L s (L.place (grant p o r d))) (λ d. leb d 7) depths small y in
      let q : leb f.0 7 ≡ true = f.1 in
      let k = order-live L W s j.0 (grant p o r f.0) (search (fst, snd, both)) f.2 in
      absurd (false≢true (sym dead ∙ both k.0 k.1))) (λ n. n))
