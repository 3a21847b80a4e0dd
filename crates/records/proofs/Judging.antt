-- What is decided before a slice is gone through: the number of reading an image into it and the number of a check over it, each with the
-- places that are gone through; and what one struct adds to what was found. Where the slice has its 1,024 places, the number of reading is
-- the image's own; where it has not, it is 1.
use mathlib.Core.Path.{◌≡◌, sym}
use mathlib.Core.Bool.{Bool, true, false, not, ◌&&◌, and-true, and-false}
use mathlib.Core.List.{List}
use Prim.Native.Nat.{ℕ, ◌%◌}
use lib.ListN.{length}
use lib.Dec.{eqb}
use borrow.Author.Tests.{eq-eqb, ne_eqb, not-true, not-false}
use Rattle.bits.specs.Bits.{bit}
use Rattle.model.specs.Commands.{items, right_depth}
use Rattle.ticketing.specs.declared.Ticket.{Ticket}
use Rattle.ticketing.specs.Machine.{most_tickets}
use Rattle.ticketing.specs.Image.{ticket_words}
use Rattle.ticketing.specs.Unit.{guarded}
use Rattle.records.specs.declared.Inquiry.{Inquiry}
use Rattle.records.specs.Records.{read_number, places_for, reading_of, inquiry_of, found_of}

module _ (s : List ℕ) (places : ℕ) where
  pub read_number_lem : places ≡ most_tickets → read_number s places ≡ guarded s 0
  read_number_lem l = rw (eq-eqb places most_tickets l, and-true (eqb (length s) ticket_words))

  pub read_short : (places ≡ most_tickets → ⊥) → record { number = 1; count = 0 } ≡ reading_of s places
  read_short h = sym (rw (ne_eqb places most_tickets h, and-false (eqb (length s) ticket_words)))

  pub read_length : (length s ≡ ticket_words → ⊥) → record { number = 1; count = 0 } ≡ reading_of s places
  read_length h = sym (rw (ne_eqb (length s) ticket_words h))

  pub read_goes : (n c : ℕ) → places ≡ most_tickets → n ≡ guarded s 0 → c ≡ places_for n → record { number = n; count = c } ≡ reading_of s places
  read_goes n c l e q = rw (q, e, read_number_lem l)

module _ (places p o r : ℕ) where
  pub ask_short : (places ≡ most_tickets → ⊥) → record { number = 1; count = 0; who = p; on = o; right = r } ≡ inquiry_of places p o r
  ask_short h = sym (rw (ne_eqb places most_tickets h))

  pub ask_beyond : places ≡ most_tickets → items p o && right_depth r 0 ≡ false
      → record { number = 3; count = 0; who = p; on = o; right = r } ≡ inquiry_of places p o r
  ask_beyond l b = sym (rw (eq-eqb places most_tickets l, b))

  pub ask_goes : places ≡ most_tickets → items p o && right_depth r 0 ≡ true
      → record { number = 0; count = most_tickets; who = p; on = o; right = r } ≡ inquiry_of places p o r
  ask_goes l b = sym (rw (eq-eqb places most_tickets l, b))

module _ (q : Inquiry) (f : ℕ) (t : Ticket) where
  pub look_item : (t.item ≡ q.on → ⊥) → f ≡ found_of q f t
  look_item i = sym (rw (ne_eqb t.item q.on i, and-false (bit t.holders (q.who % 64))))

  module _ (i : t.item ≡ q.on) where
    pub look_right : (t.right ≡ q.right → ⊥) → f ≡ found_of q f t
    look_right r =
        sym (rw (eq-eqb t.item q.on i, ne_eqb t.right q.right r, and-false (bit t.holders (q.who % 64))))

    module _ (r : t.right ≡ q.right) (b : Bool) (e : b ≡ bit t.holders (q.who % 64)) where
      pub look_lacks : not b ≡ true → f ≡ found_of q f t
      look_lacks h = sym (rw (← e, not-true b h))

      pub look_found : not b ≡ false → 1 ≡ found_of q f t
      look_found h = sym (rw (eq-eqb t.item q.on i, eq-eqb t.right q.right r, ← e, not-false b h))
