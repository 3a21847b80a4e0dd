-- An image of a wrong length or not in order is refused (`subjects_stop`); in any other the unit says who the subjects are
-- (`subjects_are`).
use mathlib.Core.Path.{sym, subst}
use Rattle.model.proofs.Answers.{passed-on}
use Rattle.model.specs.declared.Refusal.TheVariants as is
use Rattle.layouts.specs.Subjects.{Tells}
use Rattle.layouts.proofs.Ends.{order-length, subjects_stop, subjects_are}
use Rattle.layouts.proofs.flat.FlatUnit.subjects.Goals as goal

pub returns-in_default : goal.returns-in_default
returns-in_default g c =
    let law = g.met.Self.FlatUnit in
    subjects_stop _ _ is.WrongLength (order-length _ _ _ _ (law.lengths _) law.sized c.in_default.ensures.cases)

pub returns-in_err-order : goal.returns-in_err-order
returns-in_err-order g c =
    let s = g.Self.FlatUnit.cells c.args.image.now in
    subst (λ r. Tells g.Self.FlatUnit.layout s r s) (sym (passed-on _ _ c.from_residual.ensures (λ y i. i)))
    (subjects_stop g.Self.FlatUnit.layout _ _ (rw c.in-Some.ensures.cases.same at c.in_err-order.ensures))

pub returns : goal.returns
returns g c =
    let same = c.in-Some.ensures.cases.same in
    subjects_are g.Self.FlatUnit.layout _ _ (rw same at c.in_ok-order.ensures) (rw same at c.persons.ensures)
