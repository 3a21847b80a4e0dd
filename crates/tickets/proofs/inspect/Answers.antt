-- Numbers 1 and 2 alone.
use mathlib.Core.Path.{refl}
use Rattle.model.proofs.Answers.{numbered}
use Rattle.std.specs.Prelude.{Err}
use Rattle.model.specs.declared.Refusal.TheVariants as is
use Rattle.tickets.proofs.Admission.{order-length}
use Rattle.tickets.proofs.inspect.Goals as goal

pub returns-in_default : goal.returns-in_default
returns-in_default c = (numbered (Err is.WrongLength) _ (order-length c.args.image.now c.in_default.ensures.cases), refl)

pub returns : goal.returns
returns c = rw (← c.in-Some.ensures.cases.same) (numbered c.order.result _ c.order.ensures, refl)
