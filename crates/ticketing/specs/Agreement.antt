-- The ticket unit is held to the ticket machine, as one statement about a whole list of ticket commands.
use Rattle.std.specs.Prelude.{◌≡◌, List, [], ◌∷◌, ℕ}
use Rattle.model.specs.Answers.{asked}
use Rattle.ticketing.specs.declared.TicketCommand.{TicketCommand}
use Rattle.ticketing.specs.Machine.{Tickets, fresh_tickets, answer, given, step, ticket_yes}
use Rattle.ticketing.specs.Image.{image_of}
use Rattle.ticketing.specs.Unit.{answer_of, step_of, given_of, check_number, check_yes, fresh_image}

-- the image is the machine's, and every check is answered by it
pub record Agrees (m : Tickets) (s : List ℕ) : Type 0 where
  pub words : s ≡ image_of m
  pub number : (p o r : ℕ) → check_number s p o r ≡ asked p o r
  pub yes : (p o r : ℕ) → check_yes s p o r ≡ ticket_yes m p o r

-- so is every command: its number, and the number that generate gives back
pub record Answers (m : Tickets) (s : List ℕ) (c : TicketCommand) : Type 0 where
  pub number : answer_of s c ≡ answer m c
  pub ticket : given_of s c ≡ given m c

-- 'Before the first call and after each'
abbrev pub Follows : Tickets → List ℕ → List TicketCommand → Type 0
Follows m s [] = Agrees m s
Follows m s (c ∷ cs) = Agrees m s × Answers m s c × Follows (step m c) (step_of s c) cs

-- both fresh
abbrev pub Agreement : List TicketCommand → Type 0
Agreement cs = Follows fresh_tickets fresh_image cs
