-- The table's rows in their order; then the item leaves the live set (`live-swept`) and every place.
use borrow.Author.Rules.{rules}
use mathlib.Core.Path.{◌≡◌, sym, ap, ◌∙◌}
use mathlib.Core.Bool.{true, false}
use Prim.Native.Nat.{ℕ}
use borrow.Author.Tests.{ne_eqb}
use lib.ListN.{get_or}
use lib.Dec.{eqb}
use Rattle.bits.specs.Bits.{without_bit}
use mathlib.Core.List.{map}
use Rattle.ticketing.specs.declared.TicketCommand.TheVariants.{Delete}
use Rattle.ticketing.specs.Machine.{tickets, lives, holds, without}
use Rattle.ticketing.specs.Image.{image_of, machine_of}
use Rattle.tickets.specs.Places.{Ready}
use Rattle.tickets.proofs.Fields.{of_item}
use Rattle.tickets.proofs.Places.{live-swept}
use Rattle.tickets.proofs.Admission.{goes}
use Rattle.tickets.proofs.drop_item.Goals as goal

pub returns : goal.returns
unfolding machine_of
returns c =
    let m = machine_of c.args.image.now in
    let v : Ready c.args.image.now c.args.by.0 c.args.on.0 0 = search rules in
    let e : lives m c.args.by.0 ≡ true = sym c.is_live.ensures ∙ c.if-not-is_live.false in
    let f : lives m c.args.on.0 ≡ true = sym c.is_live-2.ensures ∙ c.if-not-is_live-2.false in
    let g : eqb c.args.on.0 0 ≡ false = ne_eqb c.args.on.0 0 (λ z. c.if-number-eq0.false (c.number.ensures ∙ z)) in
    let h : holds m c.args.by.0 c.args.on.0 0 ≡ true = ap (λ (r : ℕ). holds m c.args.by.0 c.args.on.0 r) (sym c.edit.ensures) ∙ sym c.is_holder.ensures ∙ c.if-not-is_holder.false in
    let l : c.without.result ≡ without_bit (get_or c.args.image.now 0 0) c.args.on.0 = of_item (without_bit (get_or c.args.image.now 0 0)) c.without.result _ _
    c.without.ensures c.number-2.ensures v.on-item in
    goes c.args.image.now c.drop_all.new.image (Delete c.args.by.0 c.args.on.0) (rw (e, f, g, h))
    (c.drop_all.ensures ∙ live-swept c.args.image.now c.without.result (without c.args.on.0) c.told-image
    ∙ ap (λ (l : ℕ). image_of (tickets l (machine_of c.args.image.now).next (map (without c.args.on.0) (machine_of c.args.image.now).records))) l)
