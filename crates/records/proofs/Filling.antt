-- A slice is filled from an image, place by place. After k places its first k structs are the image's, and where k is 0 nothing is changed.
-- So where reading is refused, which goes through no place, the slice is as it was; else every place is the image's.
use mathlib.Core.Path.{◌≡◌, refl, sym, ◌∙◌, ap, subst}
use mathlib.Core.Bool.{Bool, true, ◌&&◌, cond}
use mathlib.Core.List.{List, [], ◌∷◌, ◌++◌}
use Prim.Native.Nat.{ℕ, ◌+◌, ◌≤◌, ◌<◌}
use native.Mathlib.Nat.{lt_of_lt_of_le}
use native.Mathlib.Omega.{arith}
use native.Mathlib.Numerals.{add-one}
use lib.ListN.{length, set, length-set, take}
use lib.Seq.{take-suc, take-suc-set, take_all}
use lib.Dec.{eqb}
use borrow.Author.Tests.{eqb-true}
use Rattle.bits.proofs.Sets.{by_cases, fst, snd}
use Rattle.layouts.proofs.Guarding.{guard_passed}
use Rattle.ticketing.specs.declared.Ticket.{Ticket}
use Rattle.ticketing.specs.Machine.{vacant, most_tickets}
use Rattle.ticketing.specs.Order.{is_in_order}
use Rattle.ticketing.specs.Image.{ticket_words, machine_of, ticket_at}
use Rattle.records.specs.Records.{read_number, read_records, places_for}
use Rattle.records.proofs.Records.{records-long, record_at_lem}

-- where reading is not refused, both lengths are right
passed : (s : List ℕ) (n : ℕ) → read_number s n ≡ 0 → (length s ≡ ticket_words) × (n ≡ most_tickets)
passed s n e =
    let g = (guard_passed (eqb (length s) ticket_words && eqb n most_tickets) (is_in_order (machine_of s)) e).0 in
    both (length s) n g
  where
    both : (a b : ℕ) → eqb a ticket_words && eqb b most_tickets ≡ true → (a ≡ ticket_words) × (b ≡ most_tickets)
    both a b g = search (fst, snd, eqb-true)

module _ (s : List ℕ) (ys : List Ticket) where
  abbrev n : ℕ
  n = length ys

  -- the places gone through
  abbrev pub places : ℕ
  places = places_for (read_number s n)

  abbrev pub Facts : ℕ → List Ticket → Type 0
  Facts k zs = (length zs ≡ n) × (take k zs ≡ take k (machine_of s).records) × (k ≡ 0 → zs ≡ ys)

  -- some are gone through only where reading is not refused, and then they are those of the slice
  pub goes : (k : ℕ) → k < places → read_number s n ≡ 0
  goes k l =
      by_cases (eqb (read_number s n) 0) (eqb-true (read_number s n) 0)
      (λ t. absurd (none (subst (λ (b : Bool). k < cond b most_tickets 0) t l)))
    where
      none : k < 0 → ⊥
      none h = omega (arith, h)

  pub places_fit : places ≤ n
  places_fit =
      by_cases (eqb (read_number s n) 0)
      (λ t. let e = (passed s n (eqb-true (read_number s n) 0 t)).1 in rw t (omega (arith, e))) (λ t. rw t (omega arith))

  pub fill_starts : Facts 0 ys
  fill_starts = (refl, refl, λ z. refl)

  pub fill_goes : (k : ℕ) (zs : List Ticket) (t : Ticket) → k < places → Facts k zs → t ≡ ticket_at s k → Facts (k + 1) (set zs k t)
  fill_goes k zs t l fs e =
      let b = passed s n (goes k l) in
      let h : k < most_tickets = subst (λ (j : ℕ). k < j) b.1 (lt_of_lt_of_le l places_fit) in
      let g : k < length zs = subst (λ (j : ℕ). k < j) (sym fs.0) (lt_of_lt_of_le l places_fit) in
      let m : k < length (machine_of s).records = subst (λ (j : ℕ). k < j) (sym (records-long s b.0)) h in
      subst (λ (j : ℕ). Facts j (set zs k t)) (sym (add-one k)) (
        length-set zs k t ∙ fs.0,
        take-suc-set zs k t g ∙ ap (λ (a : List Ticket). a ++ (t ∷ [])) fs.1
            ∙ ap (λ (a : Ticket). take k (machine_of s).records ++ (a ∷ [])) (e ∙ sym (record_at_lem s b.0 k h))
            ∙ sym (take-suc (machine_of s).records k vacant m),
        λ z. absurd (omega (arith, z)),
      )

  pub fill_ends : (k : ℕ) (zs : List Ticket) → k ≡ places → Facts k zs → zs ≡ read_records s ys
  fill_ends k zs q fs =
      by_cases (eqb (read_number s n) 0)
      (λ t.
      let b = passed s n (eqb-true (read_number s n) 0 t) in
      let k-is : k ≡ most_tickets = q ∙ rw t in
      rw t (
      sym (take_all k zs (omega (arith, fs.0, b.1, k-is))) ∙ fs.1
      ∙ take_all k (machine_of s).records (omega (arith, records-long s b.0, k-is))
      ))
      (λ t. rw t (fs.2 (q ∙ rw t)))
