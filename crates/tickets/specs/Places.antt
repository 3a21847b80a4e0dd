-- The places of an image, as the unit's own functions speak of them.
use Rattle.std.specs.Prelude.{◌≡◌, Option, Some, None, Result, Ok, Err, Bool, true, false, not, ◌&&◌, cond, List, [], ◌∷◌, map, ℕ, suc, ◌+◌, ◌*◌, ◌<◌, ◌≤◌, take, get_or, set, eqb}
use Rattle.bits.specs.Sets.{all, keep}
use Rattle.bits.specs.Bits.{bit}
use Rattle.model.specs.Answers.{refusal_number, number_of, answer_with, ◌when◌else◌}
use Rattle.ticketing.specs.declared.Ticket.{Ticket}
use Rattle.model.specs.declared.Refusal.{Refusal}
use Rattle.ticketing.specs.declared.TicketCommand.TheVariants.{Generate}
use Rattle.ticketing.specs.Machine.{is_live, table, full, spent, last_number, most_tickets}
use Rattle.ticketing.specs.Order.{record_ok, is_in_order}
use Rattle.ticketing.specs.Image.{machine_of, word_of}
use Rattle.ticketing.specs.Unit.{Judged}

-- an item and a right as one number
abbrev pub key_of : ℕ → ℕ → ℕ
key_of o r = o + 256 * r

-- p holds the ticket, and it is for the item and right of the key
abbrev pub held_for : ℕ → ℕ → Ticket → Bool
held_for p key t = bit t.holders p && eqb (key_of t.item t.right) key

-- the first place that passes; the number of places where none does
unfoldable pub place_of : (Ticket → Bool) → List Ticket → ℕ
place_of q [] = 0
place_of q (t ∷ ts) = cond (q t) 0 (suc (place_of q ts))

-- no ticket lives there
abbrev pub is_free : Ticket → Bool
is_free t = not (is_live t)

-- the numbers of the live tickets, in the order of their places
abbrev pub live_numbers : List Ticket → List ℕ
live_numbers ts = map (λ (t : Ticket). t.number) (keep is_live ts)

-- what every command finds past numbers 1 to 3
pub record Ready (s : List ℕ) (by on right : ℕ) : Type 0 where
  pub order : is_in_order (machine_of s) ≡ true
  pub by-item : by < 64
  pub on-item : on < 64
  pub right_in : right < 8

-- a ticket may be put at that place: it is the first free one, and a number is left
pub record Issued (s : List ℕ) (place by on right : ℕ) : Type 0 where
  pub free : place < 1024
  pub first : place ≡ place_of is_free (machine_of s).records
  pub left : get_or s 1 0 < last_number
  pub by-item : by < 64
  pub on-item : on < 64
  pub right_in : right < 8

-- answer r and image x of a generate past numbers 1 to 3
abbrev pub JudgedGenerate : List ℕ → ℕ → ℕ → ℕ → Result ℕ Refusal → List ℕ → Type 0
JudgedGenerate s by on right r x =
    Judged s (Generate by on right) (number_of r) x
    × (r ≡ answer_with (table (machine_of s) (Generate by on right))
    (cond (eqb (table (machine_of s) (Generate by on right)) 0) (machine_of s).next 0))

-- the image with these words at place k
abbrev pub placed : List ℕ → ℕ → ℕ → ℕ → List ℕ
placed s k w h = set (set s (2 + 2 * k) w) (3 + 2 * k) h

-- the image with this ticket there
abbrev pub placed_ticket : List ℕ → ℕ → Ticket → List ℕ
placed_ticket s k t = placed s k (word_of t) t.holders

-- the first place that P says true of, and false of those before it; or none, and false of every place
abbrev pub FirstOf : (ℕ → Bool → Type 0) → Option ℕ → Type 0
FirstOf P None = (k : ℕ) → k < most_tickets → P k false
FirstOf P (Some n) = (n < most_tickets) × ((k : ℕ) → k < n → P k false) × P n true

-- FirstOf as a record, so that a contract can name it: r is the first place that P says true of, or none
pub record FirstPlace (P : ℕ → Bool → Type 0) (r : Option ℕ) : Type 0 where
  pub first : FirstOf P r

-- the first place whose ticket passes, or none
abbrev pub IsPlace : (Ticket → Bool) → List ℕ → Option ℕ → Type 0
IsPlace q s None = place_of q (machine_of s).records ≡ most_tickets
IsPlace q s (Some p) = (p < most_tickets) × (p ≡ place_of q (machine_of s).records)

-- the place for a new ticket, or the number that refuses one
abbrev pub HasRoom : List ℕ → Result ℕ Refusal → Type 0
HasRoom s (Ok p) = (p < most_tickets) × (p ≡ place_of is_free (machine_of s).records) × (get_or s 1 0 ≡ last_number → ⊥)
HasRoom s (Err a) = refusal_number a ≡ 15 when full (machine_of s) else 16 when spent (machine_of s) else 0

-- the numbers of the live tickets of an image in order, or none of another
abbrev pub Gathered : List ℕ → List ℕ → Option ℕ → Type 0
Gathered s d None = all (record_ok (get_or s 0 0) (get_or s 1 0)) (machine_of s).records ≡ false
Gathered s d (Some count) =
    (all (record_ok (get_or s 0 0) (get_or s 1 0)) (machine_of s).records ≡ true) × (count ≤ most_tickets)
    × (take count d ≡ live_numbers (machine_of s).records)
