-- The table's rows in their order; the place found is the only one of its number (`missing`, `found`), and the write there makes `to` a holder
-- of it (`changed-words`).
use borrow.Author.Rules.{rules}
use mathlib.Core.Path.{◌≡◌, refl, sym, ap, ◌∙◌}
use mathlib.Core.Bool.{true, false}
use Prim.Native.Nat.{◌+◌, ◌*◌, ◌%◌}
use native.Mathlib.Omega.{arith}
use lib.ListN.{get_or}
use Rattle.bits.specs.Bits.{bit, with_bit}
use Rattle.ticketing.specs.declared.TicketCommand.TheVariants.{Pass}
use Rattle.ticketing.specs.Machine.{is_number, lives, holds_number, with_holder}
use Rattle.ticketing.specs.Image.{word_of, machine_of, ticket_at}
use Rattle.ticketing.proofs.Images.{word_is}
use Rattle.tickets.specs.Places.{place_of, Ready}
use Rattle.tickets.proofs.Fields.{of_item}
use Rattle.tickets.proofs.Admission.{stops, goes}
use Rattle.tickets.proofs.Commands.{missing, found, changed-words}
use Rattle.tickets.proofs.add_holder.Goals as goal

pub returns-in_default : goal.returns-in_default
returns-in_default c =
    let m = machine_of c.args.image.now in
    let e : lives m c.args.by.0 ≡ true = sym c.is_live.ensures ∙ c.if-not-is_live.false in
    let f : lives m c.args.to.0 ≡ true = sym c.is_live-2.ensures ∙ c.if-not-is_live-2.false in
    let v : Ready c.args.image.now c.args.by.0 c.args.to.0 0 = search rules in
    let g : holds_number m c.args.by.0 c.args.number ≡ false = missing c.args.image.now c.told-image v.order c.args.number (place_of (is_number c.args.number) (machine_of c.args.image.now).records) refl c.in_default.ensures (λ t. bit t.holders c.args.by.0) in
    stops c.args.image.now (Pass c.args.by.0 c.args.to.0 c.args.number) 17 (rw (e, f, g)) (λ z. omega arith)

pub returns-then-not-has : goal.returns-then-not-has
returns-then-not-has c =
    let m = machine_of c.args.image.now in
    let e : lives m c.args.by.0 ≡ true = sym c.is_live.ensures ∙ c.if-not-is_live.false in
    let f : lives m c.args.to.0 ≡ true = sym c.is_live-2.ensures ∙ c.if-not-is_live-2.false in
    let v : Ready c.args.image.now c.args.by.0 c.args.to.0 0 = search rules in
    let g : holds_number m c.args.by.0 c.args.number ≡ false = found c.args.image.now c.told-image v.order c.args.number c.in-Some.place c.in-Some.ensures.1 c.in-Some.ensures.0 (λ t. bit t.holders c.args.by.0)
    ∙ sym (of_item (bit (ticket_at c.args.image.now c.in-Some.place).holders) c.has.result _ _
    (c.has.ensures ∙ ap (λ x. bit x (c.number.result % 64)) c.holders_at-h.ensures.0) c.number.ensures v.by-item)
    ∙ c.if-not-has.true in
    stops c.args.image.now (Pass c.args.by.0 c.args.to.0 c.args.number) 17 (rw (e, f, g)) (λ z. omega arith)

pub returns : goal.returns
returns c =
    let m = machine_of c.args.image.now in
    let e : lives m c.args.by.0 ≡ true = sym c.is_live.ensures ∙ c.if-not-is_live.false in
    let f : lives m c.args.to.0 ≡ true = sym c.is_live-2.ensures ∙ c.if-not-is_live-2.false in
    let v : Ready c.args.image.now c.args.by.0 c.args.to.0 0 = search rules in
    let g : holds_number m c.args.by.0 c.args.number ≡ true = found c.args.image.now c.told-image v.order c.args.number c.in-Some.place c.in-Some.ensures.1 c.in-Some.ensures.0 (λ t. bit t.holders c.args.by.0)
    ∙ sym (of_item (bit (ticket_at c.args.image.now c.in-Some.place).holders) c.has.result _ _
    (c.has.ensures ∙ ap (λ x. bit x (c.number.result % 64)) c.holders_at-h.ensures.0) c.number.ensures v.by-item)
    ∙ c.if-not-has.false in
    let w : c.record_at-w.result ≡ word_of (ticket_at c.args.image.now c.in-Some.place) = c.record_at-w.ensures.0 ∙ sym (word_is (get_or c.args.image.now (2 + 2 * c.in-Some.place) 0)) in
    let k : c.with.result ≡ with_bit (ticket_at c.args.image.now c.in-Some.place).holders c.args.to.0 = of_item (with_bit (ticket_at c.args.image.now c.in-Some.place).holders) c.with.result _ _
    (c.with.ensures ∙ ap (λ x. with_bit x (c.number-2.result % 64)) c.holders_at-h.ensures.0) c.number-2.ensures v.on-item in
    goes c.args.image.now c.put_record.new.image (Pass c.args.by.0 c.args.to.0 c.args.number) (rw (e, f, g))
    (c.put_record.ensures ∙ changed-words c.args.image.now c.told-image v.order c.args.number c.in-Some.place c.in-Some.ensures.1 c.in-Some.ensures.0 (with_holder c.args.to.0) _ _ w k)
