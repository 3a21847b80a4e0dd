-- Refused by its length, the buffer stays; otherwise its three words are written over words that are all 0 (`fresh-words`).
use mathlib.Core.Path.{refl, ap, ◌∙◌}
use Prim.Native.Nat.{ℕ}
use borrow.Author.Tests.{eq-eqb, ne_eqb}
use lib.ListN.{length, replicate}
use Rattle.std.specs.Prelude.{Ok, Err}
use Rattle.model.specs.declared.Refusal.TheVariants as is
use Rattle.model.proofs.Answers.{numbered}
use Rattle.ticketing.specs.Image.{ticket_words}
use Rattle.tickets.proofs.Places.{fresh-words}
use Rattle.tickets.proofs.fresh.Goals as goal

pub returns-in_default : goal.returns-in_default
returns-in_default c =
    rw (ne_eqb (length c.args.image.now) ticket_words c.in_default.ensures.cases) (numbered (Err is.WrongLength) 1 refl, refl)

pub returns : goal.returns
returns c =
    let whole = c.in-Some.ensures.cases in
    rw (eq-eqb (length c.args.image.now) ticket_words whole.long) (
      numbered (Ok tt) 0 refl,
      fresh-words c.clear.new.words _ _ _ (c.clear.ensures ∙ ap (λ (n : ℕ). replicate n 0) (ap length whole.same ∙ whole.long))
          c.fresh-start.ensures.0 c.fresh-start.ensures.1 c.fresh-start.ensures.2,
    )
