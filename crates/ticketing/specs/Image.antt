-- The image of a ticket unit: 2,050 words of 64 bits. Word 0 is the live set, word 1 the next number, then come 1,024 records of two
-- words. It is a function of the machine, and the machine of it.
use Rattle.std.specs.Prelude.{List, [], ◌∷◌, ℕ, ◌+◌, ◌*◌, ◌/◌, ◌%◌, get_or, drop}
use Rattle.ticketing.specs.declared.Ticket.{Ticket}
use Rattle.ticketing.specs.Machine.{Tickets, ticket, tickets}

-- '2,050 words'
abbrev pub ticket_words : ℕ
ticket_words = 2050

-- 'number + item·2^32 + right·2^40 + issuer·2^48'; the second word is the holders
abbrev pub word_of : Ticket → ℕ
word_of t = t.number + t.item * 4294967296 + t.right * 1099511627776 + t.issuer * 281474976710656

-- the ticket of two words
abbrev pub ticket_of : ℕ → ℕ → Ticket
ticket_of w h = ticket (w % 4294967296) (w / 4294967296 % 256) (w / 1099511627776 % 256) (w / 281474976710656) h

-- the words of tickets, two each
unfoldable pub words_of : List Ticket → List ℕ
words_of [] = []
words_of (t ∷ ts) = word_of t ∷ t.holders ∷ words_of ts

-- the tickets of words
unfoldable pub tickets_in : List ℕ → List Ticket
tickets_in [] = []
tickets_in (w ∷ []) = []
tickets_in (w ∷ h ∷ s) = ticket_of w h ∷ tickets_in s

-- 'word 0 the live set, word 1 the next number, then 1,024 records of two words'
unfoldable pub image_of : Tickets → List ℕ
image_of m = m.live ∷ m.next ∷ words_of m.records

-- the state that words tell
unfoldable pub machine_of : List ℕ → Tickets
machine_of s = tickets (get_or s 0 0) (get_or s 1 0) (tickets_in (drop 2 s))

-- the ticket at place k of an image
abbrev pub ticket_at : List ℕ → ℕ → Ticket
ticket_at s k = ticket_of (get_or s (2 + 2 * k) 0) (get_or s (3 + 2 * k) 0)

-- those from place k on
unfoldable pub from : List ℕ → ℕ → List Ticket
from s k = tickets_in (drop (2 + 2 * k) s)
