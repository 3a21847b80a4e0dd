-- A buffer of a wrong length is refused by number 1 (`order-length`). In any other, what numbers 1 to 3 admit decides (`admitted`): a
-- refusal has its number and changes nothing (`refused_ran`); past them the table's answer is the command's (`ran`).
use mathlib.Core.Path.{refl}
use Rattle.model.proofs.Answers.{passed-on}
use Rattle.std.specs.Prelude.{Ok, Err}
use Rattle.model.specs.declared.Refusal.TheVariants as is
use Rattle.ticketing.specs.declared.TicketCommand.TheVariants.{Remove}
use Rattle.tickets.proofs.Admission.{order-length, admitted, refused_ran, ran}
use Rattle.tickets.proofs.remove.Goals as goal

pub returns-in_default : goal.returns-in_default
returns-in_default c =
    refused_ran c.args.image.now (Remove c.args.by c.args.number) c.args.by 0 0 refl (Err is.WrongLength)
    (order-length c.args.image.now c.in_default.ensures.cases) _ refl

pub end_ticket-requires : goal.end_ticket-requires
end_ticket-requires c =
    let m = admitted c.in-Some.image.now (Remove c.args.by c.args.number) c.args.by 0 0 refl c.order.result
    c.order.ensures (Ok _) c.in_ok-q.ensures in
    rw m.1 (rw m.1 at m.0)

pub returns-in_err-q : goal.returns-in_err-q
returns-in_err-q c =
    rw (← c.in-Some.ensures.cases.same, passed-on _ _ c.from_residual.ensures (λ y i. i))
    (refused_ran c.in-Some.image.now (Remove c.args.by c.args.number) c.args.by 0 0 refl c.order.result
    c.order.ensures _ c.in_err-q.ensures)

pub returns : goal.returns
returns c =
    let m = admitted c.in-Some.image.now (Remove c.args.by c.args.number) c.args.by 0 0 refl c.order.result
    c.order.ensures (Ok _) c.in_ok-q.ensures in
    rw (← c.in-Some.ensures.cases.same)
    (ran c.in-Some.image.now (Remove c.args.by c.args.number) m.2 m.3 _ _ (rw m.1 at c.end_ticket.ensures))
