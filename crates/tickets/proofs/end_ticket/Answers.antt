-- The table's rows in their order; the place found is the only one of its number (`missing`, `found`), and its words become 0
-- (`changed-words`).
use borrow.Author.Rules.{rules}
use mathlib.Core.Path.{◌≡◌, refl, sym, ap, ◌∙◌}
use mathlib.Core.Bool.{true, false}
use Prim.Native.Nat.{ℕ, ◌+◌, ◌*◌, ◌/◌, ◌%◌}
use native.Mathlib.Omega.{arith}
use lib.ListN.{get_or}
use Rattle.bits.specs.Sets.{any}
use Rattle.ticketing.specs.declared.TicketCommand.TheVariants.{Remove}
use Rattle.ticketing.specs.Machine.{is_number, lives, holds, may_remove, ended}
use Rattle.ticketing.specs.Image.{machine_of}
use Rattle.tickets.specs.Places.{place_of, held_for, Ready}
use Rattle.tickets.proofs.Admission.{stops, goes}
use Rattle.tickets.proofs.Commands.{missing, found, edit_code, changed-words}
use Rattle.tickets.proofs.end_ticket.Goals as goal

pub returns-in_default : goal.returns-in_default
returns-in_default c =
    let m = machine_of c.args.image.now in
    let e : lives m c.args.by.0 ≡ true = sym c.is_live.ensures ∙ c.if-not-is_live.false in
    let v : Ready c.args.image.now c.args.by.0 0 0 = search rules in
    let g : may_remove m c.args.by.0 c.args.number ≡ false = missing c.args.image.now c.told-image v.order c.args.number (place_of (is_number c.args.number) (machine_of c.args.image.now).records) refl c.in_default.ensures (λ t. holds m c.args.by.0 t.item 0) in
    stops c.args.image.now (Remove c.args.by.0 c.args.number) 17 (rw (e, g)) (λ z. omega arith)

pub returns-then-not-holds_key : goal.returns-then-not-holds_key
returns-then-not-holds_key c =
    let m = machine_of c.args.image.now in
    let e : lives m c.args.by.0 ≡ true = sym c.is_live.ensures ∙ c.if-not-is_live.false in
    let v : Ready c.args.image.now c.args.by.0 0 0 = search rules in
    let g : may_remove m c.args.by.0 c.args.number ≡ false = found c.args.image.now c.told-image v.order c.args.number c.in-Some.place c.in-Some.ensures.1 c.in-Some.ensures.0 (λ t. holds m c.args.by.0 t.item 0)
    ∙ sym (edit_code c.args.image.now c.args.by.0 (get_or c.args.image.now (2 + 2 * c.in-Some.place) 0))
    ∙ sym (c.holds_key.ensures ∙ ap (λ (w : ℕ). any (held_for c.args.by.0 (w / 4294967296 % 256)) (machine_of c.args.image.now).records) c.record_at.ensures.0)
    ∙ c.if-not-holds_key.true in
    stops c.args.image.now (Remove c.args.by.0 c.args.number) 17 (rw (e, g)) (λ z. omega arith)

pub returns : goal.returns
returns c =
    let m = machine_of c.args.image.now in
    let e : lives m c.args.by.0 ≡ true = sym c.is_live.ensures ∙ c.if-not-is_live.false in
    let v : Ready c.args.image.now c.args.by.0 0 0 = search rules in
    let g : may_remove m c.args.by.0 c.args.number ≡ true = found c.args.image.now c.told-image v.order c.args.number c.in-Some.place c.in-Some.ensures.1 c.in-Some.ensures.0 (λ t. holds m c.args.by.0 t.item 0)
    ∙ sym (edit_code c.args.image.now c.args.by.0 (get_or c.args.image.now (2 + 2 * c.in-Some.place) 0))
    ∙ sym (c.holds_key.ensures ∙ ap (λ (w : ℕ). any (held_for c.args.by.0 (w / 4294967296 % 256)) (machine_of c.args.image.now).records) c.record_at.ensures.0)
    ∙ c.if-not-holds_key.false in
    goes c.args.image.now c.put_record.new.image (Remove c.args.by.0 c.args.number) (rw (e, g))
    (c.put_record.ensures ∙ changed-words c.args.image.now c.told-image v.order c.args.number c.in-Some.place c.in-Some.ensures.1 c.in-Some.ensures.0 ended 0 0 refl refl)
