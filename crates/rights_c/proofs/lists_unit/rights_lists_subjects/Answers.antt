-- The number is returned, and the persons are written, 0 beside a refusal (`found-of`).
use mathlib.Core.Path.{refl, ap, ◌∙◌}
use Prim.Native.Nat.{ℕ}
use Rattle.std.specs.Prelude.{Result}
use Rattle.std.specs.Result.{result_unwrap_or}
use Rattle.model.specs.declared.Refusal.{Refusal}
use Rattle.layouts.specs.Layouts.{lists}
use Rattle.layouts.specs.Subjects.{subjects_number, subjects_of}
use Rattle.rights_c.proofs.Found.{found-of}
use Rattle.rights_c.proofs.lists_unit.rights_lists_subjects.Goals as goal

pub returns : goal.returns
returns c = (
  c.number.ensures ∙ c.subjects-s.ensures.0.0,
  c.unwrap_or.ensures ∙ ap (λ (x : Result ℕ Refusal). result_unwrap_or x 0) c.subjects-s.ensures.0.1
      ∙ found-of (subjects_number lists c.args.image.now) (subjects_of lists c.args.image.now),
  refl,
)
