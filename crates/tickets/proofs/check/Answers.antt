-- A refusal by numbers 1 to 3 has its number (`order-length`, `check_refused`); past them the image may be read (`check_reads`), and
-- whether a ticket is held is the answer (`check_says`).
use mathlib.Core.Path.{refl}
use Rattle.model.proofs.Answers.{passed-on}
use Rattle.std.specs.Prelude.{Err}
use Rattle.model.specs.declared.Refusal.TheVariants as is
use Rattle.tickets.proofs.Admission.{order-length, check_refused, check_reads, check_says}
use Rattle.tickets.proofs.check.Goals as goal

pub returns-in_default : goal.returns-in_default
returns-in_default c =
    check_refused c.args.image.now c.args.who c.args.on c.args.right (Err is.WrongLength)
    (order-length c.args.image.now c.in_default.ensures.cases) _ refl

pub is_holder-requires : goal.is_holder-requires
is_holder-requires c =
    check_reads c.in-Some.image.now c.args.who c.args.on c.args.right c.order.result c.order.ensures _ c.in_ok-q.ensures

pub returns-in_err-q : goal.returns-in_err-q
returns-in_err-q c =
    rw (← c.in-Some.ensures.cases.same, passed-on _ _ c.from_residual.ensures (λ y i. i))
    (check_refused c.in-Some.image.now c.args.who c.args.on c.args.right c.order.result c.order.ensures _ c.in_err-q.ensures)

pub returns : goal.returns
returns c =
    rw (← c.in-Some.ensures.cases.same)
    (check_says c.in-Some.image.now c.args.who c.args.on c.args.right c.order.result c.order.ensures _ c.in_ok-q.ensures _
    c.is_holder.ensures)
