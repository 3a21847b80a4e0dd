-- The table's rows in their order; then the item joins the live set (`live-issued`) and a new ticket for it goes to the first free place.
use borrow.Author.Rules.{rules}
use mathlib.Core.Path.{◌≡◌, sym, ◌∙◌, ap₂}
use mathlib.Core.Bool.{true, false}
use Prim.Native.Nat.{ℕ}
use lib.ListN.{get_or}
use Rattle.bits.specs.Bits.{with_bit}
use Rattle.ticketing.specs.declared.TicketCommand.TheVariants.{Create}
use Rattle.ticketing.specs.Machine.{lives, issue}
use Rattle.ticketing.specs.Image.{image_of, machine_of}
use Rattle.tickets.specs.Places.{Ready}
use Rattle.tickets.proofs.Fields.{of_item}
use Rattle.tickets.proofs.Places.{live-issued, live-room}
use Rattle.tickets.proofs.Admission.{goes}
use Rattle.tickets.proofs.Commands.{room_code, room-left}
use Rattle.tickets.proofs.make.Goals as goal

pub put_ticket-requires : goal.put_ticket-requires
put_ticket-requires c =
    let v : Ready c.args.image.now c.args.by.0 c.args.on.0 0 = search rules in
    rw c.edit.ensures (live-room c.args.image.now _ _ c.args.by.0 c.args.on.0 0 c.told-image (room-left c.args.image.now c.told-image c.in_ok-place.ensures c.args.by.0 c.args.on.0 0 v))

pub returns : goal.returns
unfolding machine_of
returns c =
    let m = machine_of c.args.image.now in
    let e : lives m c.args.by.0 ≡ true = sym c.is_live.ensures ∙ c.if-not-is_live.false in
    let f : lives m c.args.on.0 ≡ false = sym c.is_live-2.ensures ∙ c.if-is_live.false in
    let v : Ready c.args.image.now c.args.by.0 c.args.on.0 0 = search rules in
    let l : c.with.result ≡ with_bit (get_or c.args.image.now 0 0) c.args.on.0 = of_item (with_bit (get_or c.args.image.now 0 0)) c.with.result _ _
    c.with.ensures c.number.ensures v.on-item in
    goes c.args.image.now c.put_ticket.new.image (Create c.args.by.0 c.args.on.0) (rw (e, f) (room_code c.args.image.now c.told-image c.in_ok-place.ensures))
    (c.put_ticket.ensures ∙ live-issued c.args.image.now c.with.result c.args.by.0 c.args.on.0 _ c.told-image
    ∙ ap₂ (λ (l r : ℕ). image_of (issue (machine_of c.args.image.now) l c.args.by.0 c.args.on.0 r)) l c.edit.ensures)
