-- Each command of lists and rows, case by case: what it does to an image is what it does to the journal.
use mathlib.Core.Path.{◌≡◌, refl}
use mathlib.Core.Bool.{Bool, true, false, cond, false≢true}
use borrow.Author.Tests.{eqb-true}
use lib.Dec.{eqb}
use Rattle.model.specs.declared.Command.{Command}
use Rattle.model.specs.declared.Command.TheVariants.{Create, Delete, Allow, Withdraw, Lend, Recall, Shift, AllowSet, Drop, Sweep}
use Rattle.model.specs.Commands.{arguments_of}
use Rattle.model.specs.Answers.{flat}
use Rattle.layouts.specs.Machine.{step_of}
use Rattle.model.specs.Journal.{Journal, facts, answered, apply, step}
use Rattle.layouts.specs.Layouts.{Layout, after, flat_unit}
use Rattle.model.specs.Invariant.{Inv}
use Rattle.layouts.specs.Laws.{Laws, image_of}
use Rattle.layouts.proofs.Layouts.{answer_of_lem, created_of, deleted_of, allowed_of, allowed_set_of}
use Rattle.layouts.proofs.Drops.{withdrawn_of}
use Rattle.bits.proofs.Sets.{fst, snd, both}
use Rattle.model.proofs.Invariant.{accepted}
use Rattle.model.proofs.Steps.{flat_lends}

module _ (L : Layout) (W : Laws L) where
  after_of : (j : Journal) → Inv j → (c : Command) → flat c ≡ true → answered j c ≡ 0
      → after L (image_of L j) (arguments_of c) ≡ image_of L (apply j c)
  after_of j v (Create by on) h e = created_of L W j v by on
  after_of j v (Delete by on) h e = deleted_of L W j v by on
  after_of j v (Allow by to on right depth) h e = allowed_of L W j v by to on right depth
  after_of j v (Withdraw by to on right) h e =
      let k = (accepted (facts j (arguments_of (Withdraw by to on right))) (arguments_of (Withdraw by to on right)) e).fits in
      withdrawn_of L W j v by to on right (search (fst, snd, both))
  after_of j v (Drop by to on right depth) h e = absurd (false≢true h)
  after_of j v (Lend by to on right depth last) h e = absurd (false≢true h)
  after_of j v (Recall by to on right depth last) h e = absurd (false≢true h)
  after_of j v (Shift by now) h e = absurd (false≢true h)
  after_of j v (Sweep by) h e = absurd (false≢true h)
  after_of j v (AllowSet by set on right depth) h e = allowed_set_of L W j v by set on right depth

  pub step_of_lem : (j : Journal) → Inv j → (c : Command) → flat c ≡ true → step_of (flat_unit L) (image_of L j) c ≡ image_of L (step j c)
  step_of_lem j v c h = rw (answer_of_lem L W j v c (flat_lends c h)) (go (eqb (answered j c) 0) refl)
    where
      go : (b : Bool) → eqb (answered j c) 0 ≡ b → cond b (after L (image_of L j) (arguments_of c)) (image_of L j) ≡ image_of L (cond b (apply j c) j)
      go true e = after_of j v c h (eqb-true (answered j c) 0 e)
      go false e = refl
