-- The unit's answer tells its number, which some answer has, and yes or no: the one is returned, the other written as 1 or 0.
use mathlib.Core.Path.{◌≡◌, refl, ap, ◌∙◌}
use mathlib.Core.Bool.{Bool, true, false, ◌&&◌}
use mathlib.Core.List.{List}
use Prim.Native.Nat.{ℕ}
use lib.ListN.{length}
use lib.Dec.{eqb}
use Rattle.std.specs.Prelude.{Result}
use Rattle.model.specs.declared.Refusal.{Refusal}
use Rattle.model.specs.Answers.{number_of, checked_yes}
use Rattle.model.proofs.Answers.{known_number, checked_yes_lem}
use Rattle.layouts.proofs.Guarding.{check_guard_known}
use Rattle.ticketing.specs.Machine.{holds}
use Rattle.ticketing.specs.Order.{is_in_order}
use Rattle.ticketing.specs.Image.{ticket_words, machine_of}
use Rattle.ticketing.specs.Unit.{Checks, check_number, check_yes}
use Rattle.rights_c.specs.Exports.{flag}
use Rattle.rights_c.proofs.Found.{flag-of}
use Rattle.rights_c.proofs.tickets_unit.rights_tickets_check.Goals as goal

told : (s : List ℕ) (p o r : ℕ) (a : Result Bool Refusal) (x : List ℕ) → Checks s p o r a x
    → (number_of a ≡ check_number s p o r) × (checked_yes a ≡ check_yes s p o r) × (x ≡ s)
told s p o r a x h =
    let n = check_number s p o r in (
      ap number_of h.0
          ∙ known_number n (check_yes s p o r) (check_guard_known (eqb (length s) ticket_words) (is_in_order (machine_of s)) p o r),
      ap checked_yes h.0 ∙ checked_yes_lem n (check_yes s p o r) ∙ again (eqb n 0) (holds (machine_of s) p o r),
      h.1,
    )
  where
    again : (a b : Bool) → a && (a && b) ≡ a && b
    again true b = refl
    again false b = refl

pub returns : goal.returns
returns c =
    let r = told c.args.image.now c.args.who c.args.on c.args.right _ _ c.check-c.ensures in
    (c.number.ensures ∙ r.0, flag-of _ ∙ ap flag (c.unwrap_or.ensures ∙ r.1), r.2)
