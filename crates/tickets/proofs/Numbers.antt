-- Live numbers that differ: a number names one place at the most, so what a command does to the ticket of a number, wherever it is, it
-- does at the first place that has it; and the tickets differ exactly where the list of their numbers has none twice.
use mathlib.Core.Path.{◌≡◌, refl, sym, ap, ap₂, ◌∙◌}
use mathlib.Core.Bool.{Bool, true, false, not, ◌&&◌, ◌||◌, cond, false≢true, or-false}
use mathlib.Core.List.{List, [], ◌∷◌, map}
use Prim.Native.Nat.{ℕ, suc, ◌≤◌, ◌<◌}
use native.Mathlib.Omega.{arith}
use borrow.Author.Tests.{eqb-true, not-true}
use lib.ListN.{length, get_or, set}
use lib.Dec.{eqb, ltb}
use Rattle.bits.specs.Sets.{any, all, keep}
use Rattle.bits.proofs.Sets.{fst, snd, both, neither, any-map, any-keep, any_cong, all_true}
use Rattle.model.proofs.Invariant.{eqb_sym}
use Rattle.ticketing.specs.declared.Ticket.{Ticket}
use Rattle.ticketing.specs.Machine.{vacant, is_live, is_number, changed}
use Rattle.ticketing.specs.Order.{record_ok, has, differ}
use Rattle.ticketing.proofs.Records.{ok_cases}
use Rattle.numbers.specs.Numbers.{distinct}
use Rattle.tickets.specs.Places.{place_of, live_numbers}

-- ---- the ticket of number n, where live numbers differ
module _ (n : ℕ) where
  -- where no ticket has the number, nothing changes, and no test of it passes
  same_none : (f : Ticket → Ticket) (ts : List Ticket) → has n ts ≡ false → map (changed n f) ts ≡ ts
  unfolding any
  same_none f [] e = refl
  same_none f (t ∷ ts) e =
      let k = neither (is_number n t) (has n ts) e in
      ap₂ ◌∷◌ (rw k.0) (same_none f ts k.1)

  test_none : (q : Ticket → Bool) (ts : List Ticket) → has n ts ≡ false → any (λ t. is_number n t && q t) ts ≡ false
  unfolding any
  test_none q [] e = refl
  test_none q (t ∷ ts) e = let k = neither (is_number n t) (has n ts) e in rw k.0 (test_none q ts k.1)

  -- a place past the last
  none-there : (ts : List Ticket) → length ts ≤ place_of (is_number n) ts → has n ts ≡ false
  unfolding any place_of
  none-there [] l = refl
  none-there (t ∷ ts) l = go (is_number n t) l (none-there ts)
    where
      go : (b : Bool) → suc (length ts) ≤ cond b 0 (suc (place_of (is_number n) ts))
          → (length ts ≤ place_of (is_number n) ts → has n ts ≡ false) → b || has n ts ≡ false
      go true l ih = absurd (omega arith)
      go false l ih = ih (omega arith)

  -- a ticket that has the number has it alone
  alone : (t : Ticket) (ts : List Ticket) → is_number n t ≡ true → not (is_live t && has t.number ts) ≡ true → has n ts ≡ false
  alone t ts e d =
      let a = fst (is_live t) (eqb t.number n) e in
      let b = eqb-true t.number n (snd (is_live t) (eqb t.number n) e) in
      not-true (has n ts) (sym (ap not (ap₂ (λ l k. l && has k ts) a b)) ∙ d)

  pub no_number : (q : Ticket → Bool) (ts : List Ticket) → length ts ≤ place_of (is_number n) ts → any (λ t. is_number n t && q t) ts ≡ false
  no_number q ts l = test_none q ts (none-there ts l)

  pub test_number : (q : Ticket → Bool) (ts : List Ticket) → differ ts ≡ true → place_of (is_number n) ts < length ts
      → any (λ t. is_number n t && q t) ts ≡ q (get_or ts (place_of (is_number n) ts) vacant)
  unfolding any differ place_of
  test_number q [] d l = absurd (omega arith)
  test_number q (t ∷ ts) d l =
      go (is_number n t) refl l (test_number q ts (snd (not (is_live t && has t.number ts)) (differ ts) d))
    where
      go : (b : Bool) → is_number n t ≡ b → cond b 0 (suc (place_of (is_number n) ts)) < suc (length ts)
          → (place_of (is_number n) ts < length ts → any (λ t. is_number n t && q t) ts ≡ q (get_or ts (place_of (is_number n) ts) vacant))
          → (b && q t) || any (λ t. is_number n t && q t) ts ≡ q (get_or (t ∷ ts) (cond b 0 (suc (place_of (is_number n) ts))) vacant)
      go true e l ih =
          ap (λ b. q t || b) (test_none q ts (alone t ts e (fst (not (is_live t && has t.number ts)) (differ ts) d))) ∙ or-false (q t)
      go false e l ih = ih (omega arith)

  pub change_number : (f : Ticket → Ticket) (ts : List Ticket) → differ ts ≡ true → place_of (is_number n) ts < length ts
      → map (changed n f) ts ≡ set ts (place_of (is_number n) ts) (f (get_or ts (place_of (is_number n) ts) vacant))
  unfolding differ place_of
  change_number f [] d l = absurd (omega arith)
  change_number f (t ∷ ts) d l =
      go (is_number n t) refl l (change_number f ts (snd (not (is_live t && has t.number ts)) (differ ts) d))
    where
      go : (b : Bool) → is_number n t ≡ b → cond b 0 (suc (place_of (is_number n) ts)) < suc (length ts)
          → (place_of (is_number n) ts < length ts
          → map (changed n f) ts ≡ set ts (place_of (is_number n) ts) (f (get_or ts (place_of (is_number n) ts) vacant)))
          → cond b (f t) t ∷ map (changed n f) ts
          ≡ set (t ∷ ts) (cond b 0 (suc (place_of (is_number n) ts))) (f (get_or (t ∷ ts) (cond b 0 (suc (place_of (is_number n) ts))) vacant))
      go true e l ih =
          ap (λ (l : List Ticket). f t ∷ l) (same_none f ts (alone t ts e (fst (not (is_live t && has t.number ts)) (differ ts) d)))
      go false e l ih = ap (λ (l : List Ticket). t ∷ l) (ih (omega arith))

-- ---- live numbers as a list
-- a live ticket has the number exactly where the list has it
has_listed : (n : ℕ) (ts : List Ticket) → any (eqb n) (live_numbers ts) ≡ has n ts
has_listed n ts =
    any-map (eqb n) (λ (t : Ticket). t.number) (keep is_live ts)
    ∙ any-keep (λ (t : Ticket). eqb n t.number) is_live ts
    ∙ any_cong (λ (t : Ticket). is_live t && eqb n t.number) (is_number n) (λ (t : Ticket). true) ts (all_true ts)
    (λ t e. ap (λ b. is_live t && b) (eqb_sym n t.number))

pub differ-listed : (ts : List Ticket) → distinct (live_numbers ts) ≡ differ ts
unfolding differ keep distinct
differ-listed [] = refl
differ-listed (t ∷ ts) = go (is_live t) (differ-listed ts)
  where
    go : (b : Bool) → distinct (live_numbers ts) ≡ differ ts
        → distinct (map (λ (t : Ticket). t.number) (cond b (t ∷ keep is_live ts) (keep is_live ts))) ≡ not (b && has t.number ts) && differ ts
    go true ih = ap₂ (λ a b. not a && b) (has_listed t.number ts) ih
    go false ih = ih

-- where every record is in order, live numbers lie below the next
pub numbers-below : (l n : ℕ) (ts : List Ticket) → all (record_ok l n) ts ≡ true → all (λ k. ltb k n) (live_numbers ts) ≡ true
unfolding all keep
numbers-below l n [] e = refl
numbers-below l n (t ∷ ts) e =
    go (is_live t) refl (numbers-below l n ts (snd (record_ok l n t) (all (record_ok l n) ts) e))
  where
    low : is_live t ≡ true → ltb t.number n ≡ true
    low v = ok_cases l n t (fst (record_ok l n t) (all (record_ok l n) ts) e)
        (λ z. absurd (false≢true (ap (λ (x : Ticket). is_live x) (sym z) ∙ v)))
        (λ v q. let a : ltb t.number n ≡ true = search (fst, snd) in a)

    go : (b : Bool) → is_live t ≡ b → all (λ k. ltb k n) (live_numbers ts) ≡ true
        → all (λ k. ltb k n) (map (λ (t : Ticket). t.number) (cond b (t ∷ keep is_live ts) (keep is_live ts))) ≡ true
    go true v ih = both (low v) ih
    go false v ih = ih
