-- What request K6 promises of tickets, beside the unit's agreement with the machine: said of a state that commands lead to from fresh,
-- of an accepted command there, and of all that may follow.
use Rattle.std.specs.Prelude.{◌≡◌, Bool, true, false, not, ◌&&◌, List, ℕ, ◌≤◌, ◌<◌, eqb}
use Rattle.bits.specs.Sets.{any, count}
use Rattle.bits.specs.Bits.{bit}
use Rattle.model.specs.Answers.{asked}
use Rattle.ticketing.specs.declared.TicketCommand.{TicketCommand}
use Rattle.ticketing.specs.declared.TicketCommand.TheVariants.{Create, Generate, Pass, Remove, Delete}
use Rattle.ticketing.specs.Machine.{Tickets, most_tickets, lives, is_live, opens, holds, holds_number, full, answer, step, run, ticket_yes}
use Rattle.ticketing.specs.Order.{has}

-- ---- 'Numbers rise from 0 and are never used again'
-- the commands that issue a ticket: 'create issues a right 0 ticket', 'generate .. leaves the new ticket with the issuer'
abbrev pub issues : TicketCommand → Bool
issues (Create by on) = true
issues (Generate by on right) = true
issues (Pass by to number) = false
issues (Remove by number) = false
issues (Delete by on) = false

-- a live ticket has number n, is for item o and right r, and p issued it
abbrev pub names : Tickets → ℕ → ℕ → ℕ → ℕ → Bool
names m n o r p = any (λ t. is_live t && (eqb t.number n && (opens o r t && eqb t.issuer p))) m.records

-- no number is used twice
pub record NeverAgain (m : Tickets) : Type 0 where
  -- the next number and those above it are unused
  pub unused : (n : ℕ) → m.next ≤ n → has n m.records ≡ false
  -- a new ticket takes the next number, and the next is above it from then on
  pub new : (c : TicketCommand) → issues c ≡ true → answer m c ≡ 0 → has m.next (step m c).records ≡ true
  pub rise : (c : TicketCommand) → issues c ≡ true → answer m c ≡ 0 → (cs : List TicketCommand) → m.next < (run (step m c) cs).next
  -- a live ticket of a number below the next is, after any commands, the one that lives now: of the same item, right and issuer
  pub same : (cs : List TicketCommand) (n o r p : ℕ) → n < m.next → names (run m cs) n o r p ≡ true → names m n o r p ≡ true
  -- so a number below the next that no live ticket has now is never again that of one
  pub ended : (cs : List TicketCommand) (n : ℕ) → n < m.next → has n m.records ≡ false → has n (run m cs).records ≡ false

-- ---- 'remove .. takes it from everyone'
-- p holds a live ticket for that item and right, of another number than n
abbrev pub holds_other : Tickets → ℕ → ℕ → ℕ → ℕ → Bool
holds_other m n p o r = any (λ t. not (eqb t.number n) && (bit t.holders p && opens o r t)) m.records

-- after an accepted remove the ticket gives nobody a yes
pub record RemoveTakes (m : Tickets) (by n : ℕ) : Type 0 where
  -- the check says yes exactly through tickets of other numbers
  pub yes : (p o r : ℕ) → ticket_yes (step m (Remove by n)) p o r ≡ eqb (asked p o r) 0 && holds_other m n p o r
  -- no live ticket has that number, and nobody holds one, at once and after any commands
  pub ended : (cs : List TicketCommand) → has n (run (step m (Remove by n)) cs).records ≡ false
  pub unheld : (cs : List TicketCommand) (p : ℕ) → holds_number (run (step m (Remove by n)) cs) p n ≡ false

-- ---- 'delete .. ends the item's tickets and takes the item out of every holder set'
-- nobody holds anything for item i, and i holds nothing
pub record Unnamed (m : Tickets) (i : ℕ) : Type 0 where
  pub there : (p r : ℕ) → holds m p i r ≡ false
  pub itself : (o r : ℕ) → holds m i o r ≡ false

-- after an accepted delete nobody holds anything there and the item holds nothing
pub record DeleteEnds (m : Tickets) (by on : ℕ) : Type 0 where
  -- at once
  pub unnamed : Unnamed (step m (Delete by on)) on
  -- and after any commands, for as long as the item is dead
  pub later : (cs : List TicketCommand) → lives (run (step m (Delete by on)) cs) on ≡ false → Unnamed (run (step m (Delete by on)) cs) on
  -- none of the item's tickets lives
  pub ended : any (λ t. is_live t && eqb t.item on) (step m (Delete by on)).records ≡ false
  -- all others hold what they held elsewhere
  pub others : (p o r : ℕ) → not (eqb p on) && not (eqb o on) ≡ true → holds (step m (Delete by on)) p o r ≡ holds m p o r

-- ---- 'create issues a right 0 ticket to its maker', and that is all: a recreated item inherits nothing
pub record InheritsNothing (m : Tickets) (by on : ℕ) : Type 0 where
  -- after an accepted create its maker holds right 0 there, and nobody anything else
  pub there : (p r : ℕ) → holds (step m (Create by on)) p on r ≡ eqb by p && eqb 0 r
  -- and it holds nothing
  pub itself : (o r : ℕ) → holds (step m (Create by on)) on o r ≡ false

-- ---- all of them
pub record Promises (m : Tickets) : Type 0 where
  pub numbers : NeverAgain m
  pub remove : (by n : ℕ) → answer m (Remove by n) ≡ 0 → RemoveTakes m by n
  pub delete : (by on : ℕ) → answer m (Delete by on) ≡ 0 → DeleteEnds m by on
  pub create : (by on : ℕ) → answer m (Create by on) ≡ 0 → InheritsNothing m by on
  -- '15 when 1,024 tickets live'
  pub fifteen : full m ≡ eqb (count is_live m.records) most_tickets
