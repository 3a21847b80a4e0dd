-- What the settled commands find and leave, in an image in order. The place that code finds for a number is the only one that has it, so
-- a test of that ticket is the table's, and a write there is the machine's change; the first free place is where a new ticket goes.
use mathlib.Core.Path.{◌≡◌, sym, ap, ap₂, ◌∙◌}
use mathlib.Core.Bool.{Bool, true, false, ◌&&◌}
use mathlib.Core.List.{List, map}
use Prim.Native.Nat.{ℕ, zero, suc, ◌+◌, ◌/◌, ◌%◌, ◌≤◌, ◌<◌}
use native.Mathlib.Omega.{arith}
use borrow.Author.Tests.{ne_eqb, leb-true}
use lib.ListN.{length, get_or, drop, set}
use lib.Dec.{eqb}
use Rattle.bits.specs.Sets.{any}
use Rattle.bits.proofs.Sets.{fst, snd}
use Rattle.model.specs.Answers.{refusal_number, ◌when◌else◌}
use Rattle.ticketing.specs.declared.Ticket.{Ticket}
use Rattle.ticketing.specs.Machine.{tickets, vacant, last_number, is_number, changed, holds, full, spent}
use Rattle.ticketing.specs.Order.{differ, is_in_order}
use Rattle.ticketing.specs.Image.{ticket_words, word_of, machine_of, image_of, ticket_at, from}
use Rattle.ticketing.proofs.Images.{from_zero, length-records}
use lib.Arith.{lt_of_le-ne}
use Rattle.model.specs.declared.Refusal.{Refusal}
use Rattle.std.specs.Prelude.{Some, None, Ok, Err}
use Rattle.tickets.specs.Places.{key_of, held_for, place_of, is_free, placed, Ready, Issued, IsPlace, HasRoom}
use Rattle.tickets.proofs.Places.{next_place, full-place, placed-words}
use Rattle.tickets.proofs.Numbers.{no_number, test_number, change_number}
use Rattle.tickets.proofs.Fields.{keys_code}

-- the ticket at a place, in the list of tickets
nth : (s : List ℕ) → length s ≡ ticket_words → (i j : ℕ) → j + i < 1024 → get_or (from s j) i vacant ≡ ticket_at s (j + i)
nth s size zero j l =
    let e : j + 0 ≡ j = omega arith in
    rw e (ap (λ (ts : List Ticket). get_or ts 0 vacant) (next_place s j size (omega arith)))
nth s size (suc i) j l =
    let e : j + suc i ≡ (j + 1) + i = omega arith in
    ap (λ (ts : List Ticket). get_or ts (suc i) vacant) (next_place s j size (omega arith)) ∙ nth s size i (j + 1) (omega arith) ∙ ap (ticket_at s) (sym e)

pub ticket-there : (s : List ℕ) (k : ℕ) → length s ≡ ticket_words → k < 1024 → get_or (machine_of s).records k vacant ≡ ticket_at s k
ticket-there s k size l =
    let e : 0 + k ≡ k = omega arith in
    ap (λ (ts : List Ticket). get_or ts k vacant) (from_zero s) ∙ nth s size k 0 (omega arith) ∙ ap (ticket_at s) e

-- ---- the ticket of a number
module _ (s : List ℕ) (size : length s ≡ ticket_words) (order : is_in_order (machine_of s) ≡ true) (n p : ℕ)
    (at : p ≡ place_of (is_number n) (machine_of s).records) where
  differs : differ (machine_of s).records ≡ true
  differs = search (fst, snd)

  within : p < 1024 → place_of (is_number n) (machine_of s).records < length (machine_of s).records
  within l = let k = length-records s size in omega arith

  pub missing : p ≡ 1024 → (q : Ticket → Bool) → any (λ t. is_number n t && q t) (machine_of s).records ≡ false
  missing e q = let k = length-records s size in no_number n q (machine_of s).records (omega arith)

  pub found : p < 1024 → (q : Ticket → Bool) → any (λ t. is_number n t && q t) (machine_of s).records ≡ q (ticket_at s p)
  found l q =
      test_number n q (machine_of s).records differs (within l)
      ∙ ap q (ap (λ (k : ℕ). get_or (machine_of s).records k vacant) (sym at) ∙ ticket-there s p size l)

  pub changed-words : p < 1024 → (f : Ticket → Ticket) (w h : ℕ) → w ≡ word_of (f (ticket_at s p)) → h ≡ (f (ticket_at s p)).holders
      → placed s p w h ≡ image_of (tickets (machine_of s).live (machine_of s).next (map (changed n f) (machine_of s).records))
  changed-words l f w h a b =
      ap₂ (placed s p) a b ∙ placed-words s p (f (ticket_at s p)) size
      ∙ ap (λ (ts : List Ticket). image_of (tickets (machine_of s).live (machine_of s).next ts))
      (sym (change_number n f (machine_of s).records differs (within l)
      ∙ ap (λ (k : ℕ). set (machine_of s).records k (f (get_or (machine_of s).records k vacant))) (sym at)
      ∙ ap (λ (t : Ticket). set (machine_of s).records p (f t)) (ticket-there s p size l)))

-- who holds a ticket for right 0 on the item of a word
pub edit_code : (s : List ℕ) (p w : ℕ)
    → any (held_for p (w / 4294967296 % 256)) (machine_of s).records ≡ holds (machine_of s) p (w / 4294967296 % 256) 0
unfolding machine_of
edit_code s p w =
    let e : w / 4294967296 % 256 ≡ key_of (w / 4294967296 % 256) 0 = omega arith in
    ap (λ (k : ℕ). any (held_for p k) (machine_of s).records) e ∙ keys_code (drop 2 s) p (w / 4294967296 % 256) 0 (omega arith)

-- ---- room for a new ticket
module _ (s : List ℕ) (size : length s ≡ ticket_words) where
  full_code : eqb (place_of is_free (machine_of s).records) 1024 ≡ full (machine_of s)
  full_code = ap (eqb (place_of is_free (machine_of s).records)) (sym (length-records s size)) ∙ sym (full-place (machine_of s).records)

  -- no place is free, or no number is left
  pub full_room : (a : Refusal) → refusal_number a ≡ 15 → IsPlace is_free s None → HasRoom s (Err a)
  full_room a n h =
      let e : full (machine_of s) ≡ true = sym full_code ∙ rw h in
      rw (n, e)

  module _ {p : ℕ} (h : IsPlace is_free s (Some p)) where
    free : full (machine_of s) ≡ false
    free = sym full_code ∙ ne_eqb (place_of is_free (machine_of s).records) 1024 (λ z. omega (arith, h.0, h.1))

    pub spent_room : (a : Refusal) → refusal_number a ≡ 16 → get_or s 1 0 ≡ last_number → HasRoom s (Err a)
    unfolding machine_of
    spent_room a n e =
        let f = free in
        let g : spent (machine_of s) ≡ true = rw e in
        rw (n, f, g)

  -- a ticket may be put there, and the table refuses nothing
  module _ {p : ℕ} (h : HasRoom s (Ok p)) where
    pub room_code : (15 when full (machine_of s) else 16 when spent (machine_of s) else 0) ≡ 0
    unfolding machine_of
    room_code =
        let f = free (h.0, h.1) in
        let g : spent (machine_of s) ≡ false = ne_eqb (get_or s 1 0) last_number h.2 in
        rw (f, g)

    pub room-left : (by on right : ℕ) → Ready s by on right → Issued s p by on right
    unfolding machine_of
    room-left by on right v =
        let o = v.order in
        let m : get_or s 1 0 ≤ last_number = search (fst, snd, leb-true) in
        record {
          free = h.0;
          first = h.1;
          left = lt_of_le-ne m h.2;
          by-item = v.by-item;
          on-item = v.on-item;
          right_in = v.right_in;
        }
