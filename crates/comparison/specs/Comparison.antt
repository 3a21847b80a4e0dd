-- Request K6's comparison of the ticket unit and the lists unit, as one statement about a whole list of commands: 'With both fresh, for
-- every list of creates and depth 0 allows, each allow done as generate and, if accepted, pass of that ticket by the same person, and as
-- long as 15 and 16 don't occur, the tickets say yes exactly where the lists do or the person issued a live ticket for that item and
-- right.'
use Rattle.std.specs.Prelude.{◌≡◌, Bool, true, not, ◌||◌, cond, List, [], ◌∷◌, ℕ, eqb}
use Rattle.bits.specs.Sets.{all}
use Rattle.model.specs.declared.Command.{Command}
use Rattle.model.specs.declared.Command.TheVariants as command
use Rattle.layouts.specs.Machine as machine
use Rattle.layouts.specs.Layouts as layouts
use Rattle.layouts.specs.Layouts.{lists, flat_unit}
use Rattle.ticketing.specs.declared.TicketCommand.{TicketCommand}
use Rattle.ticketing.specs.declared.TicketCommand.TheVariants.{Create, Generate, Pass}
use Rattle.ticketing.specs.Machine.{issued}
use Rattle.ticketing.specs.Image.{machine_of}
use Rattle.ticketing.specs.Unit.{answer_of, step_of, given_of, check_yes, fresh_image}

-- 'creates and depth 0 allows': by and on; by, to, on and right
pub data Shared : Type 0 where
  create : ℕ → ℕ → Shared
  allow : ℕ → ℕ → ℕ → ℕ → Shared

-- the command for the lists
abbrev pub listed : Shared → Command
listed (create by on) = command.Create by on
listed (allow by to on right) = command.Allow by to on right 0

-- the commands for the tickets: 'each allow done as generate and, if accepted, pass of that ticket by the same person'; a is what the
-- generate answers, n the number that it gives back
abbrev pub ticketed : (TicketCommand → ℕ) → (TicketCommand → ℕ) → Shared → List TicketCommand
ticketed a n (create by on) = Create by on ∷ []
ticketed a n (allow by to on right) =
    Generate by on right ∷ cond (eqb (a (Generate by on right)) 0) (Pass by to (n (Generate by on right)) ∷ []) []

-- those for a ticket unit with these words
abbrev pub told : List ℕ → Shared → List TicketCommand
told s c = ticketed (answer_of s) (given_of s) c

-- the words of a ticket unit after commands
abbrev pub run_of : List ℕ → List TicketCommand → List ℕ
run_of s [] = s
run_of s (c ∷ cs) = run_of (step_of s c) cs

-- the numbers that it answers, in their order
abbrev pub answers_of : List ℕ → List TicketCommand → List ℕ
answers_of s [] = []
answers_of s (c ∷ cs) = answer_of s c ∷ answers_of (step_of s c) cs

-- '15 and 16 don't occur' among these numbers
abbrev pub roomy : List ℕ → Bool
roomy ns = all (λ n. not (eqb n 15 || eqb n 16)) ns

-- 'the tickets say yes exactly where the lists do or the person issued a live ticket for that item and right': ticket words s, list words x
abbrev pub Same : List ℕ → List ℕ → Type 0
Same s x = (p o r : ℕ) → check_yes s p o r ≡ layouts.check_yes lists x p o r || issued (machine_of s) p o r

-- before the first command, and after each 'as long as 15 and 16 don't occur'
abbrev pub Compared : List ℕ → List ℕ → List Shared → Type 0
Compared s x [] = Same s x
Compared s x (c ∷ cs) =
    Same s x × (roomy (answers_of s (told s c)) ≡ true → Compared (run_of s (told s c)) (machine.step_of (flat_unit lists) x (listed c)) cs)

-- 'With both fresh'
abbrev pub Comparison : List Shared → Type 0
Comparison cs = Compared fresh_image (layouts.fresh_image lists) cs
