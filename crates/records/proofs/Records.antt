-- The slice and the image tell the same: the records of an image stand where the image has them, `record_at_lem`; where reading is not refused
-- it fills every place with them, and the check over them is the unit's check, `tie`, since both ask the same of the same records.
use mathlib.Core.Path.{◌≡◌, refl, sym, ◌∙◌, ap, subst}
use mathlib.Core.Bool.{◌&&◌}
use mathlib.Core.List.{List, [], ◌∷◌}
use Prim.Native.Nat.{ℕ, zero, suc, ◌+◌, ◌-◌, ◌*◌, ◌<◌}
use native.Mathlib.Omega.{arith}
use lib.ListN.{length, get_or, drop, length-drop}
use lib.Seq.{get_or-drop}
use lib.Dec.{eqb}
use borrow.Author.Tests.{eq-eqb, eqb-true}
use Rattle.layouts.proofs.Guarding.{guard_passed}
use Rattle.ticketing.specs.declared.Ticket.{Ticket}
use Rattle.ticketing.specs.Machine.{vacant, most_tickets, holds}
use Rattle.ticketing.specs.Order.{is_in_order}
use Rattle.ticketing.specs.Image.{ticket_words, ticket_of, tickets_in, machine_of, ticket_at}
use Rattle.ticketing.specs.Unit.{guarded, check_number}
use Rattle.records.specs.Records.{read_records, record_at, records_number, Tells, Tie}
use Rattle.records.proofs.Judging.{read_number_lem}

-- ---- the tickets of words, two each
two_on : (k : ℕ) → 2 * suc k ≡ suc (suc (2 * k))
two_on k = omega arith

in_words : (l : List ℕ) (k : ℕ) → suc (2 * k) < length l → get_or (tickets_in l) k vacant ≡ ticket_of (get_or l (2 * k) 0)
    (get_or l (suc (2 * k)) 0)
unfolding tickets_in
in_words [] k h = absurd (omega (arith, h))
in_words (w ∷ []) k h = absurd (omega (arith, h))
in_words (w ∷ u ∷ l) zero h = refl
in_words (w ∷ u ∷ l) (suc k) h =
    in_words l k (omega (arith, h)) ∙ ap (λ (j : ℕ). ticket_of (get_or (w ∷ u ∷ l) j 0) (get_or (w ∷ u ∷ l) (suc j) 0)) (sym (two_on k))

how_many : (n : ℕ) (l : List ℕ) → length l ≡ 2 * n → length (tickets_in l) ≡ n
unfolding tickets_in
how_many zero [] h = refl
how_many zero (w ∷ l) h = absurd (omega (arith, h))
how_many (suc n) [] h = absurd (omega (arith, h))
how_many (suc n) (w ∷ []) h = absurd (omega (arith, h))
how_many (suc n) (w ∷ u ∷ l) h = ap suc (how_many n l (omega (arith, h)))

-- ---- those of an image of its length
module _ (s : List ℕ) (l : length s ≡ ticket_words) where
  rest : length (drop 2 s) ≡ 2048
  rest = length-drop 2 s ∙ ap (λ (n : ℕ). n - 2) l

  pub records-long : length (machine_of s).records ≡ most_tickets
  unfolding machine_of
  records-long = how_many 1024 (drop 2 s) rest

  pub record_at_lem : (k : ℕ) → k < most_tickets → record_at (machine_of s).records k ≡ ticket_at s k
  unfolding machine_of
  record_at_lem k h =
      in_words (drop 2 s) k (subst (λ (n : ℕ). suc (2 * k) < n) (sym rest) (omega (arith, h)))
      ∙ ap (λ (w : ℕ). ticket_of w (get_or (drop 2 s) (suc (2 * k)) 0)) (get_or-drop 2 s (2 * k) 0)
      ∙ ap (ticket_of (get_or s (2 + 2 * k) 0)) (get_or-drop 2 s (suc (2 * k)) 0 ∙ ap (λ (j : ℕ). get_or s j 0) (next k))
    where
      next : (k : ℕ) → 2 + suc (2 * k) ≡ 3 + 2 * k
      next k = omega arith

-- ---- an image in order, read
pub told : (s : List ℕ) → guarded s 0 ≡ 0 → Tells s (machine_of s).records
told s e =
    let g = guard_passed (eqb (length s) ticket_words) (is_in_order (machine_of s)) e in
    let l = eqb-true (length s) ticket_words g.0 in
    let m = eq-eqb (length (machine_of s).records) most_tickets (records-long s l) in
    let n : (p o r : ℕ) → records_number (machine_of s).records p o r ≡ check_number s p o r = λ p o r. rw (m, g.0, g.1) refl in
    record {
      number = n;
      yes = λ p o r. ap (λ (k : ℕ). eqb k 0 && holds (machine_of s) p o r) (n p o r);
      place = record_at_lem s l;
    }

pub tie : (s : List ℕ) (ts : List Ticket) → Tie s ts
tie s ts e l =
    let z = read_number_lem s (length ts) l ∙ e in
    let r : read_records s ts ≡ (machine_of s).records = rw z in
    (z, r, subst (Tells s) (sym r) (told s e))
