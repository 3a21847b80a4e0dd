-- The records of a ticket unit as structs in a lent slice: what the functions over it answer and leave there.
use Rattle.std.specs.Prelude.{◌≡◌, Bool, not, ◌&&◌, cond, List, ℕ, ◌%◌, ◌<◌, length, get_or, eqb}
use Rattle.bits.specs.Bits.{bit}
use Rattle.model.specs.Answers.{asked, ◌when◌else◌}
use Rattle.layouts.specs.Machine.{guarded_by}
use Rattle.ticketing.specs.declared.Ticket.{Ticket}
use Rattle.ticketing.specs.Machine.{tickets, vacant, most_tickets, opens, holds}
use Rattle.ticketing.specs.Order.{is_in_order}
use Rattle.ticketing.specs.Image.{ticket_words, machine_of, ticket_at}
use Rattle.ticketing.specs.Unit.{guarded, check_number, check_yes}
use Rattle.records.specs.declared.Reading.{Reading}
use Rattle.records.specs.declared.Inquiry.{Inquiry}

-- ---- the records of an image, read into a slice
-- the number: both lengths, then the image's order
abbrev pub read_number : List ℕ → ℕ → ℕ
read_number s places = guarded_by (eqb (length s) ticket_words && eqb places most_tickets) (is_in_order (machine_of s)) 0

-- the slice after it: 'all unchanged' where it is refused
abbrev pub read_records : List ℕ → List Ticket → List Ticket
read_records s ts = cond (eqb (read_number s (length ts)) 0) (machine_of s).records ts

-- number n, slice x and image y of reading
abbrev pub Reads : List ℕ → List Ticket → ℕ → List Ticket → List ℕ → Type 0
Reads s ts n x y = (n ≡ read_number s (length ts)) × (x ≡ read_records s ts) × (y ≡ s)

-- ---- the struct at a place; past the end the all-zero record
abbrev pub record_at : List Ticket → ℕ → Ticket
record_at ts k = get_or ts k vacant

-- struct t and slice x of a look at a place
abbrev pub Looks : List Ticket → ℕ → Ticket → List Ticket → Type 0
Looks ts k t x = (t ≡ record_at ts k) × (x ≡ ts)

-- ---- the check over a slice
-- its number, where the slice has so many places: it knows 1 and 3
abbrev pub inquiry_number : ℕ → ℕ → ℕ → ℕ → ℕ
inquiry_number places p o r = 1 when not (eqb places most_tickets) else asked p o r

-- the same of the slice itself
abbrev pub records_number : List Ticket → ℕ → ℕ → ℕ → ℕ
records_number ts p o r = inquiry_number (length ts) p o r

-- whether it says yes: the machine's test of who holds a ticket, over these records
abbrev pub records_yes : List Ticket → ℕ → ℕ → ℕ → Bool
records_yes ts p o r = eqb (records_number ts p o r) 0 && holds (tickets 0 0 ts) p o r

-- number n, yes y as 1 or 0, and slice x of a check
abbrev pub Answers : List Ticket → ℕ → ℕ → ℕ → ℕ → ℕ → List Ticket → Type 0
Answers ts p o r n y x = (n ≡ records_number ts p o r) × (y ≡ cond (records_yes ts p o r) 1 0) × (x ≡ ts)

-- ---- what they call
-- how many places to go through: every one, and none beside a refusal
abbrev pub places_for : ℕ → ℕ
places_for n = cond (eqb n 0) most_tickets 0

-- before reading into a slice of so many places
abbrev pub reading_of : List ℕ → ℕ → Reading
reading_of s places = record { number = read_number s places; count = places_for (read_number s places) }

-- before a check of a slice of so many places, with what is asked
abbrev pub inquiry_of : ℕ → ℕ → ℕ → ℕ → Inquiry
inquiry_of places p o r = record {
  number = inquiry_number places p o r;
  count = places_for (inquiry_number places p o r);
  who = p;
  on = o;
  right = r;
}

-- what is found by the next struct, after f: 1 where it is the ticket that is asked for
abbrev pub found_of : Inquiry → ℕ → Ticket → ℕ
found_of q f t = cond (bit t.holders (q.who % 64) && opens q.on q.right t) 1 f

-- ---- the slice is the image, read
-- what the slice that an image in order is read into tells is what the unit tells of the image
pub record Tells (s : List ℕ) (ts : List Ticket) : Type 0 where
  pub number : (p o r : ℕ) → records_number ts p o r ≡ check_number s p o r
  pub yes : (p o r : ℕ) → records_yes ts p o r ≡ check_yes s p o r
  pub place : (k : ℕ) → k < most_tickets → record_at ts k ≡ ticket_at s k

-- an image in order is read into every slice of 1,024 places, whatever it held
abbrev pub Tie : List ℕ → List Ticket → Type 0
Tie s ts =
    guarded s 0 ≡ 0 → length ts ≡ most_tickets
    → (read_number s (length ts) ≡ 0) × (read_records s ts ≡ (machine_of s).records) × Tells s (read_records s ts)
