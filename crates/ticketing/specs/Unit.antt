-- The ticket unit: the machine that the words of an image tell, after numbers 1 and 2. Here are the contracts of its functions.
use Rattle.std.specs.Prelude.{◌≡◌, Bool, not, ◌&&◌, cond, Result, ⊤, List, ℕ, length, eqb}
use Rattle.model.specs.declared.Refusal.{Refusal}
use Rattle.model.specs.Answers.{asked, Numbered, answer_with, ◌when◌else◌}
use Rattle.layouts.specs.Machine.{guarded_by}
use Rattle.ticketing.specs.declared.TicketCommand.{TicketCommand}
use Rattle.ticketing.specs.Machine.{fresh_tickets, table, answer, apply, step, holds}
use Rattle.ticketing.specs.Order.{is_in_order}
use Rattle.ticketing.specs.Image.{ticket_words, image_of, machine_of}

-- the answer n, after numbers 1 and 2
abbrev pub guarded : List ℕ → ℕ → ℕ
guarded s n = guarded_by (eqb (length s) ticket_words) (is_in_order (machine_of s)) n

-- a command's number
abbrev pub answer_of : List ℕ → TicketCommand → ℕ
answer_of s c = guarded s (answer (machine_of s) c)

-- the image after a command: 'all unchanged' where it is refused
abbrev pub step_of : List ℕ → TicketCommand → List ℕ
step_of s c = cond (eqb (answer_of s c) 0) (image_of (step (machine_of s) c)) s

-- the number that generate gives back
abbrev pub given_of : List ℕ → TicketCommand → ℕ
given_of s c = cond (eqb (answer_of s c) 0) (machine_of s).next 0

-- number n and image x of a command, past numbers 1 to 3
abbrev pub Judged : List ℕ → TicketCommand → ℕ → List ℕ → Type 0
Judged s c n x = (n ≡ table (machine_of s) c) × (x ≡ cond (eqb (table (machine_of s) c) 0) (image_of (apply (machine_of s) c)) s)

-- answer r and image x of a command: the contract of every command
abbrev pub Ran : List ℕ → TicketCommand → Result ⊤ Refusal → List ℕ → Type 0
Ran s c r x = Numbered r (answer_of s c) tt × (x ≡ step_of s c)

-- the same of generate, with the number that it gives back
abbrev pub Generates : List ℕ → TicketCommand → Result ℕ Refusal → List ℕ → Type 0
Generates s c r x = Numbered r (answer_of s c) (given_of s c) × (x ≡ step_of s c)

-- answer r and image x of a look at the image alone, which knows 1 and 2
abbrev pub Inspects : List ℕ → Result ⊤ Refusal → List ℕ → Type 0
Inspects s r x = Numbered r (guarded s 0) tt × (x ≡ s)

-- the check's number
abbrev pub check_number : List ℕ → ℕ → ℕ → ℕ → ℕ
check_number s p o r = guarded s (asked p o r)

-- whether it says yes: never beside a refusal
abbrev pub check_yes : List ℕ → ℕ → ℕ → ℕ → Bool
check_yes s p o r = eqb (check_number s p o r) 0 && holds (machine_of s) p o r

-- answer a and image x of a check, which changes no image
abbrev pub Checks : List ℕ → ℕ → ℕ → ℕ → Result Bool Refusal → List ℕ → Type 0
Checks s p o r a x = (a ≡ answer_with (check_number s p o r) (check_yes s p o r)) × (x ≡ s)

-- the image of a fresh unit
unfoldable pub fresh_image : List ℕ
fresh_image = image_of fresh_tickets

-- 'making a fresh unit knows 1 alone': whatever the buffer held
abbrev pub fresh_number : List ℕ → ℕ
fresh_number s = 1 when not (eqb (length s) ticket_words) else 0

-- the image after it: 'all unchanged' where it is refused
abbrev pub fresh_of : List ℕ → List ℕ
fresh_of s = cond (eqb (fresh_number s) 0) fresh_image s

-- answer r and image x of making a fresh unit
abbrev pub Freshens : List ℕ → Result ⊤ Refusal → List ℕ → Type 0
Freshens s r x = Numbered r (fresh_number s) tt × (x ≡ fresh_of s)
