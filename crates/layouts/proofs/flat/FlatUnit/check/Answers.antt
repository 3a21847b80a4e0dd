-- A refusal by numbers 1 to 3 has its number (`check_refused`); past them the bit at the place asked for is the answer (`check_says`).
use mathlib.Core.Path.{refl, sym, subst}
use Rattle.model.proofs.Answers.{passed-on}
use Rattle.std.specs.Prelude.{Err}
use Rattle.model.specs.declared.Refusal.TheVariants as is
use Rattle.layouts.specs.Layouts.{Checks}
use Rattle.layouts.proofs.Ends.{order-length}
use Rattle.layouts.proofs.Admission.{check_refused, check_says}
use Rattle.layouts.proofs.flat.FlatUnit.check.Goals as goal

pub returns-in_default : goal.returns-in_default
returns-in_default g c =
    let law = g.met.Self.FlatUnit in
    check_refused _ _ c.args.who c.args.on c.args.right (Err is.WrongLength)
    (order-length _ _ _ _ (law.lengths _) law.sized c.in_default.ensures.cases) _ refl

pub returns-in_err-q : goal.returns-in_err-q
returns-in_err-q g c =
    let s = g.Self.FlatUnit.cells c.args.image.now in
    subst (λ r. Checks g.Self.FlatUnit.layout s c.args.who c.args.on c.args.right r s) (sym (passed-on _ _ c.from_residual.ensures (λ y i. i)))
    (check_refused g.Self.FlatUnit.layout _ c.args.who c.args.on c.args.right c.order.result (rw c.in-Some.ensures.cases.same at c.order.ensures) _
    c.in_err-q.ensures)

pub returns : goal.returns
returns g c =
    let same = c.in-Some.ensures.cases.same in
    check_says g.Self.FlatUnit.layout _ c.args.who c.args.on c.args.right c.order.result (rw same at c.order.ensures) _ c.in_ok-q.ensures _ _
    (rw same at c.holds.ensures) refl
