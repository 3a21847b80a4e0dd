-- When a ticket machine is in order: request K6's last sentences on images, clause by clause.
use Rattle.std.specs.Prelude.{◌≡◌, Bool, true, not, ◌&&◌, ◌||◌, List, [], ◌∷◌, ℕ, ◌<◌, length, eqb, leb, ltb}
use Rattle.bits.specs.Sets.{any, all}
use Rattle.bits.specs.Bits.{bit}
use Rattle.model.specs.Commands.{members_of}
use Rattle.ticketing.specs.declared.Ticket.{Ticket}
use Rattle.ticketing.specs.Machine.{Tickets, most_tickets, last_number, lives, is_live, is_number}

-- 'all zero'
abbrev pub all_zero : Ticket → Bool
all_zero t = (eqb t.number 0 && eqb t.item 0) && ((eqb t.right 0 && eqb t.issuer 0) && eqb t.holders 0)

-- 'holders live': each of the set h is of the set l
abbrev pub among : ℕ → ℕ → Bool
among h l = all (bit l) (members_of h)

-- 'live numbers .. lie below the next, rights are at most 7, issuers at most 63, items and holders live'
abbrev pub sound : ℕ → ℕ → Ticket → Bool
sound l n t = (ltb t.number n && (leb t.right 7 && leb t.issuer 63)) && (bit l t.item && among t.holders l)

-- 'each record is all zero or has a holder'
abbrev pub record_ok : ℕ → ℕ → Ticket → Bool
record_ok l n t = all_zero t || (is_live t && sound l n t)

-- a live ticket has this number
abbrev pub has : ℕ → List Ticket → Bool
has n ts = any (is_number n) ts

-- 'live numbers differ'
unfoldable pub differ : List Ticket → Bool
differ [] = true
differ (t ∷ ts) = not (is_live t && has t.number ts) && differ ts

-- 'In order: item 0 lives, ..'; the next number is at most 4294967295
abbrev pub is_in_order : Tickets → Bool
is_in_order m = (lives m 0 && leb m.next last_number) && (all (record_ok m.live m.next) m.records && differ m.records)

-- what every machine keeps: it is in order, has its 1,024 places, and its sets are of items
pub record Kept (m : Tickets) : Type 0 where
  pub order : is_in_order m ≡ true
  pub places : length m.records ≡ most_tickets
  pub live-set : m.live < 18446744073709551616
  pub holder_sets : all (λ t. ltb t.holders 18446744073709551616) m.records ≡ true
