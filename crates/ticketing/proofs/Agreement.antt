-- The ticket unit follows the ticket machine over every list of commands: the words of a state tell it, so the unit answers and does what
-- the machine does, and every state of a run is in order, so numbers 1 and 2 never come.
use mathlib.Core.Path.{◌≡◌, refl, sym, ◌∙◌, subst}
use mathlib.Core.Bool.{Bool, true, false, cond}
use mathlib.Core.List.{List, [], ◌∷◌}
use Prim.Native.Nat.{ℕ}
use borrow.Author.Tests.{eq-eqb}
use lib.ListN.{length}
use lib.Dec.{eqb}
use Rattle.model.specs.Answers.{asked}
use Rattle.ticketing.specs.declared.TicketCommand.{TicketCommand}
use Rattle.ticketing.specs.Machine.{Tickets, fresh_tickets, answer, step}
use Rattle.ticketing.specs.Order.{Kept}
use Rattle.ticketing.specs.Image.{ticket_words, image_of, machine_of}
use Rattle.ticketing.specs.Unit.{guarded, answer_of, step_of, fresh_image}
use Rattle.ticketing.specs.Agreement.{Agrees, Answers, Follows, Agreement}
use Rattle.ticketing.proofs.Images.{length-image, machine_image}
use Rattle.ticketing.proofs.Order.{kept_fresh, kept_step}

module _ (m : Tickets) (v : Kept m) where
  guard_image : (n : ℕ) → guarded (image_of m) n ≡ n
  guard_image n = rw (machine_image m v, eq-eqb (length (image_of m)) ticket_words (length-image m v.places), v.order)

  pub answer-image : (c : TicketCommand) → answer_of (image_of m) c ≡ answer m c
  answer-image c = guard_image (answer (machine_of (image_of m)) c) ∙ rw (machine_image m v)

  pub step-image : (c : TicketCommand) → step_of (image_of m) c ≡ image_of (step m c)
  step-image c = rw (answer-image c, machine_image m v) (go (eqb (answer m c) 0) refl)
    where
      go : (b : Bool) → eqb (answer m c) 0 ≡ b → cond b (image_of (step m c)) (image_of m) ≡ image_of (step m c)
      go true e = refl
      go false e = rw e

  pub agrees_image : Agrees m (image_of m)
  agrees_image = record {
    words = refl;
    number = λ p o r. guard_image (asked p o r);
    yes = λ p o r. rw (guard_image (asked p o r), machine_image m v);
  }

  pub answers-image : (c : TicketCommand) → Answers m (image_of m) c
  answers-image c = record { number = answer-image c; ticket = rw (answer-image c, machine_image m v) }

follows : (cs : List TicketCommand) (m : Tickets) → Kept m → Follows m (image_of m) cs
follows [] m v = agrees_image m v
follows (c ∷ cs) m v = (
  agrees_image m v,
  answers-image m v c,
  subst (λ s. Follows (step m c) s cs) (sym (step-image m v c)) (follows cs (step m c) (kept_step m c v)),
)

-- before the first command and after each, for every list of ticket commands
pub agreement : (cs : List TicketCommand) → Agreement cs
unfolding fresh_image
agreement cs = follows cs fresh_tickets kept_fresh
