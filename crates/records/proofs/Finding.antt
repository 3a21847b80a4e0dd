-- A ticket is looked for in a slice, place by place. After k places, what was found and what the rest of the slice has tell together what
-- the whole slice has; where k is 0 nothing was found. So where the check is refused, which looks at no place, nothing is found; else the
-- rest is empty at the end, and what was found is what the slice has.
use mathlib.Core.Path.{◌≡◌, refl, sym, ◌∙◌, ap, subst}
use mathlib.Core.Bool.{Bool, true, false, ◌&&◌, ◌||◌, cond}
use mathlib.Core.List.{List, [], ◌∷◌}
use Prim.Native.Nat.{ℕ, suc, ◌+◌, ◌%◌, ◌≤◌, ◌<◌}
use native.Mathlib.Omega.{arith}
use native.Mathlib.Numerals.{add-one}
use lib.ListN.{length, get_or, drop, drop_of_length-le}
use lib.Seq.{drop-cons}
use lib.Dec.{eqb}
use borrow.Author.Tests.{eqb-true, leb-true}
use Rattle.bits.specs.Sets.{any}
use Rattle.bits.specs.Bits.{bit}
use Rattle.bits.proofs.Sets.{by_cases, fst, snd}
use Rattle.model.specs.Commands.{items, right_depth}
use Rattle.model.proofs.Invariant.{passed}
use Rattle.ticketing.specs.declared.Ticket.{Ticket}
use Rattle.ticketing.specs.Machine.{vacant, tickets, most_tickets, opens, holds}
use Rattle.records.specs.Records.{records_number, records_yes, places_for, inquiry_of, found_of}

module _ (ys : List Ticket) (p o r : ℕ) where
  abbrev n : ℕ
  n = length ys

  abbrev number : ℕ
  number = records_number ys p o r

  -- the places looked at
  abbrev pub places : ℕ
  places = places_for number

  -- the code's test: it takes the person's number within a word
  abbrev asks : Ticket → Bool
  asks t = bit t.holders (p % 64) && opens o r t

  abbrev pub Facts : ℕ → ℕ → Type 0
  Facts k v = (k ≡ 0 → v ≡ 0) × (cond (any asks (drop k ys)) 1 v ≡ cond (any asks ys) 1 0)

  -- where the check is not refused, the slice has its length and the person is one of 64
  accepted : number ≡ 0 → (n ≡ most_tickets) × (p % 64 ≡ p)
  accepted e =
      let g = passed 0 (eqb n most_tickets) _ e in
      (eqb-true n most_tickets g.0, within (passed 2 (items p o && right_depth r 0) _ g.1).0)
    where
      below : items p o && right_depth r 0 ≡ true → p ≤ 63
      below h = search (fst, snd, leb-true)

      within : items p o && right_depth r 0 ≡ true → p % 64 ≡ p
      within h = omega (arith, below h)

  pub places_fit : places ≤ n
  places_fit =
      by_cases (eqb number 0) (λ t. let e = (accepted (eqb-true number 0 t)).0 in rw t (omega (arith, e))) (λ t. rw t (omega arith))

  pub find_starts : Facts 0 0
  find_starts = (λ z. refl, refl)

  pub find_goes : (k v u : ℕ) → k < n → Facts k v → u ≡ found_of (inquiry_of n p o r) v (get_or ys k vacant) → Facts (k + 1) u
  unfolding any
  find_goes k v u l fs e =
      subst (λ (j : ℕ). Facts j u) (sym (add-one k)) (
        λ z. absurd (omega (arith, z)),
        ap (λ (w : ℕ). cond (any asks (drop (suc k) ys)) 1 w) e ∙ sym (next (get_or ys k vacant) (drop (suc k) ys))
            ∙ ap (λ (l : List Ticket). cond (any asks l) 1 v) (sym (drop-cons ys k vacant l)) ∙ fs.1,
      )
    where
      turn : (a b : Bool) → cond (a || b) 1 v ≡ cond b 1 (cond a 1 v)
      turn true true = refl
      turn true false = refl
      turn false b = refl

      next : (t : Ticket) (l : List Ticket) → cond (any asks (t ∷ l)) 1 v ≡ cond (any asks l) 1 (cond (asks t) 1 v)
      next t l = turn (asks t) (any asks l)

  pub find-ends : (k v : ℕ) → k ≡ places → Facts k v → v ≡ cond (records_yes ys p o r) 1 0
  unfolding any
  find-ends k v q fs =
      by_cases (eqb number 0)
      (λ t.
      let b = accepted (eqb-true number 0 t) in
      let k-is : k ≡ most_tickets = q ∙ rw t in
      let h : n ≤ k = omega (arith, b.0, k-is) in
      rw t (all_seen b.1 (drop_of_length-le ys h)))
      (λ t. rw t (fs.0 (q ∙ rw t)))
    where
      all_seen : p % 64 ≡ p → drop k ys ≡ [] → v ≡ cond (holds (tickets 0 0 ys) p o r) 1 0
      all_seen e d =
          sym (ap (λ (l : List Ticket). cond (any asks l) 1 v) d) ∙ fs.1 ∙ ap (λ (w : ℕ). cond (holds (tickets 0 0 ys) w o r) 1 0) e
