-- The ticket machine: request K6 of document 02 as a plain machine, to which the ticket unit is held as the other units are to the
-- journal. Its state is the live items, the next number and the places for tickets. A set of items is a number, bit i for item i.
use Rattle.std.specs.Prelude.{Bool, not, ◌&&◌, ◌||◌, cond, List, [], ◌∷◌, map, ℕ, suc, replicate, eqb}
use Rattle.bits.specs.Sets.{any, all}
use Rattle.bits.specs.Bits.{bit, with_bit, without_bit}
use Rattle.model.specs.Commands.{items, right_depth}
use Rattle.model.specs.Answers.{asked, ◌when◌else◌}
use Rattle.ticketing.specs.declared.Ticket.{Ticket}
use Rattle.ticketing.specs.declared.TicketCommand.{TicketCommand}
use Rattle.ticketing.specs.declared.TicketCommand.TheVariants.{Create, Generate, Pass, Remove, Delete}

-- 'each a record of number, item, right, issuer and the set of its holders'
abbrev pub ticket : ℕ → ℕ → ℕ → ℕ → ℕ → Ticket
ticket n o r p h = record { number = n; item = o; right = r; issuer = p; holders = h }

-- 'an all-zero record'
abbrev pub vacant : Ticket
vacant = ticket 0 0 0 0 0

-- 'beside the records the unit keeps a roll and the next number'
pub record Tickets : Type 0 where
  pub live : ℕ
  pub next : ℕ
  pub records : List Ticket

-- a state by its parts
abbrev pub tickets : ℕ → ℕ → List Ticket → Tickets
tickets l n ts = record { live = l; next = n; records = ts }

-- 'Up to 1,024 live tickets': the places there are
abbrev pub most_tickets : ℕ
most_tickets = 1024

-- 'the next number is 4294967295': there it ends
abbrev pub last_number : ℕ
last_number = 4294967295

-- the set of one person
abbrev pub only : ℕ → ℕ
only p = with_bit 0 p

-- n places without a ticket
unfoldable pub vacancies : ℕ → List Ticket
vacancies n = replicate n vacant

-- 'fresh, item 0 lives, the next is 1 and ticket 0 is 0's for right 0 on item 0'
unfoldable pub fresh_tickets : Tickets
fresh_tickets = tickets (only 0) 1 (ticket 0 0 0 0 (only 0) ∷ vacancies 1023)

-- ---- tests
-- item i lives
abbrev pub lives : Tickets → ℕ → Bool
lives m i = bit m.live i

-- 'A record lives when it has a holder'
abbrev pub is_live : Ticket → Bool
is_live t = not (eqb t.holders 0)

-- it is for that item and right
abbrev pub opens : ℕ → ℕ → Ticket → Bool
opens o r t = eqb t.item o && eqb t.right r

-- 'the person holds a live ticket for that item and right'
abbrev pub holds : Tickets → ℕ → ℕ → ℕ → Bool
holds m p o r = any (λ t. bit t.holders p && opens o r t) m.records

-- 'the person issued a live ticket for that item and right'
abbrev pub issued : Tickets → ℕ → ℕ → ℕ → Bool
issued m p o r = any (λ t. (is_live t && eqb t.issuer p) && opens o r t) m.records

-- the live ticket numbered n
abbrev pub is_number : ℕ → Ticket → Bool
is_number n t = is_live t && eqb t.number n

-- 'pass .. needs that ticket': n lives, and p holds it
abbrev pub holds_number : Tickets → ℕ → ℕ → Bool
holds_number m p n = any (λ t. is_number n t && bit t.holders p) m.records

-- 'remove .. needs a right 0 ticket on that ticket's item': n lives, and p holds one
abbrev pub may_remove : Tickets → ℕ → ℕ → Bool
may_remove m p n = any (λ t. is_number n t && holds m p t.item 0) m.records

-- '15 when 1,024 tickets live': no place is without one
abbrev pub full : Tickets → Bool
full m = all is_live m.records

-- '16 when the next number is 4294967295'
abbrev pub spent : Tickets → Bool
spent m = eqb m.next last_number

-- ---- what a command answers
-- 'an item above 63, right above 7' is 3
abbrev pub fits : TicketCommand → Bool
fits (Create by on) = items by on && right_depth 0 0
fits (Generate by on right) = items by on && right_depth right 0
fits (Pass by to number) = items by to && right_depth 0 0
fits (Remove by number) = items by 0 && right_depth 0 0
fits (Delete by on) = items by on && right_depth 0 0

-- the rows past 3, in their order: '15 .. after 8; 16 .. after 15; 17 when by lacks the ticket it must hold or the number names no live
-- one, in the place of 8'
abbrev pub table : Tickets → TicketCommand → ℕ
table m (Create by on) = 4 when not (lives m by) else 6 when lives m on else 15 when full m else 16 when spent m else 0
table m (Generate by on right) =
    4 when not (lives m by) else 5 when not (lives m on) else 17 when not (holds m by on 0) else 15 when full m else 16 when spent m else 0
table m (Pass by to number) = 4 when not (lives m by) else 5 when not (lives m to) else 17 when not (holds_number m by number) else 0
table m (Remove by number) = 4 when not (lives m by) else 17 when not (may_remove m by number) else 0
table m (Delete by on) =
    4 when not (lives m by) else 5 when not (lives m on) else 7 when eqb on 0 else 17 when not (holds m by on 0) else 0

-- a command's number
abbrev pub answer : Tickets → TicketCommand → ℕ
answer m c = 3 when not (fits c) else table m c

-- ---- what an accepted command does
-- 'a new one takes the first of these': the first place without a live ticket
unfoldable pub put : Ticket → List Ticket → List Ticket
put t [] = []
put t (x ∷ xs) = cond (is_live x) (x ∷ put t xs) (t ∷ xs)

-- the ticket numbered n becomes what f makes of it, every other place stays
abbrev pub changed : ℕ → (Ticket → Ticket) → Ticket → Ticket
changed n f t = cond (is_number n t) (f t) t

-- 'makes `to` a holder too'
abbrev pub with_holder : ℕ → Ticket → Ticket
with_holder to t = ticket t.number t.item t.right t.issuer (with_bit t.holders to)

-- 'takes it from everyone .. A ticket with no holder left ends as an all-zero record'
abbrev pub ended : Ticket → Ticket
ended t = vacant

-- 'ends the item's tickets and takes the item out of every holder set. A ticket with no holder left ends as an all-zero record'
abbrev pub without : ℕ → Ticket → Ticket
without i t =
    cond (eqb t.item i || eqb (without_bit t.holders i) 0) vacant
    (ticket t.number t.item t.right t.issuer (without_bit t.holders i))

-- 'leaves the new ticket with the issuer', under the next number: 'Numbers rise from 0 and are never used again'
abbrev pub issue : Tickets → ℕ → ℕ → ℕ → ℕ → Tickets
issue m l by on right = tickets l (suc m.next) (put (ticket m.next on right by (only by)) m.records)

-- what each command does
abbrev pub apply : Tickets → TicketCommand → Tickets
-- 'create issues a right 0 ticket to its maker'
apply m (Create by on) = issue m (with_bit m.live on) by on 0
apply m (Generate by on right) = issue m m.live by on right
apply m (Pass by to number) = tickets m.live m.next (map (changed number (with_holder to)) m.records)
apply m (Remove by number) = tickets m.live m.next (map (changed number ended) m.records)
apply m (Delete by on) = tickets (without_bit m.live on) m.next (map (without on) m.records)

-- a refused command changes nothing
abbrev pub step : Tickets → TicketCommand → Tickets
step m c = cond (eqb (answer m c) 0) (apply m c) m

-- 'generate gives back the new number, 0 beside a refusal'
abbrev pub given : Tickets → TicketCommand → ℕ
given m c = cond (eqb (answer m c) 0) m.next 0

-- the state after commands, one after the other
abbrev pub run : Tickets → List TicketCommand → Tickets
run m [] = m
run m (c ∷ cs) = run (step m c) cs

-- the numbers answered, in their order
abbrev pub answers : Tickets → List TicketCommand → List ℕ
answers m [] = []
answers m (c ∷ cs) = answer m c ∷ answers (step m c) cs

-- 'The check says yes exactly when the person holds a live ticket for that item and right'; beyond the limits it is refused
abbrev pub ticket_yes : Tickets → ℕ → ℕ → ℕ → Bool
ticket_yes m p o r = eqb (asked p o r) 0 && holds m p o r
