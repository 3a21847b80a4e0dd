-- The table's rows in their order; then a new ticket goes to the first free place, and its number is given back.
use borrow.Author.Rules.{rules}
use mathlib.Core.Path.{◌≡◌, refl, sym, ap, ◌∙◌, subst}
use mathlib.Core.Bool.{true, false}
use Prim.Native.Nat.{ℕ, ◌<◌}
use native.Mathlib.Omega.{arith}
use lib.ListN.{get_or}
use Rattle.model.specs.declared.Refusal.TheVariants as is
use Rattle.ticketing.specs.declared.TicketCommand.TheVariants.{Generate}
use Rattle.ticketing.specs.Machine.{lives, holds, table}
use Rattle.ticketing.specs.Image.{machine_of}
use Rattle.model.proofs.Answers.{passed-on, found_is}
use Rattle.tickets.specs.Places.{Ready, JudgedGenerate}
use Rattle.tickets.proofs.Admission.{goes, gives-none}
use Rattle.tickets.proofs.Commands.{room_code, room-left}
use Rattle.tickets.proofs.give.Goals as goal

pub returns-then-not-is_live : goal.returns-then-not-is_live
returns-then-not-is_live c =
    let m = machine_of c.args.image.now in
    let e : lives m c.args.by.0 ≡ false = sym c.is_live.ensures ∙ c.if-not-is_live.true in
    gives-none c.args.image.now c.args.by.0 c.args.on.0 c.args.right.0 4 is.ByDead refl (rw e)

pub returns-then-not-is_live-2 : goal.returns-then-not-is_live-2
returns-then-not-is_live-2 c =
    let m = machine_of c.args.image.now in
    let e : lives m c.args.by.0 ≡ true = sym c.is_live.ensures ∙ c.if-not-is_live.false in
    let f : lives m c.args.on.0 ≡ false = sym c.is_live-2.ensures ∙ c.if-not-is_live-2.true in
    gives-none c.args.image.now c.args.by.0 c.args.on.0 c.args.right.0 5 is.NamedDead refl (rw (e, f))

pub returns-then-not-is_holder : goal.returns-then-not-is_holder
returns-then-not-is_holder c =
    let m = machine_of c.args.image.now in
    let e : lives m c.args.by.0 ≡ true = sym c.is_live.ensures ∙ c.if-not-is_live.false in
    let f : lives m c.args.on.0 ≡ true = sym c.is_live-2.ensures ∙ c.if-not-is_live-2.false in
    let h : holds m c.args.by.0 c.args.on.0 0 ≡ false = ap (λ (r : ℕ). holds m c.args.by.0 c.args.on.0 r) (sym c.edit.ensures) ∙ sym c.is_holder.ensures ∙ c.if-not-is_holder.true in
    gives-none c.args.image.now c.args.by.0 c.args.on.0 c.args.right.0 17 is.NoTicket refl (rw (e, f, h))

pub returns-in_err-place : goal.returns-in_err-place
returns-in_err-place c =
    let m = machine_of c.args.image.now in
    let e : lives m c.args.by.0 ≡ true = sym c.is_live.ensures ∙ c.if-not-is_live.false in
    let f : lives m c.args.on.0 ≡ true = sym c.is_live-2.ensures ∙ c.if-not-is_live-2.false in
    let h : holds m c.args.by.0 c.args.on.0 0 ≡ true = ap (λ (r : ℕ). holds m c.args.by.0 c.args.on.0 r) (sym c.edit.ensures) ∙ sym c.is_holder.ensures ∙ c.if-not-is_holder.false in
    subst (λ r. JudgedGenerate c.args.image.now c.args.by.0 c.args.on.0 c.args.right.0 r c.args.image.now)
    (sym (passed-on _ _ c.from_residual.ensures (λ y i. i)))
    (gives-none c.args.image.now c.args.by.0 c.args.on.0 c.args.right.0 _ _ refl (rw (e, f, h) (sym c.in_err-place.ensures)))

pub put_ticket-requires : goal.put_ticket-requires
put_ticket-requires c =
    let v : Ready c.args.image.now c.args.by.0 c.args.on.0 c.args.right.0 = search rules in
    room-left c.args.image.now c.told-image c.in_ok-place.ensures c.args.by.0 c.args.on.0 c.args.right.0 v

pub overflow_cast-number : goal.overflow_cast-number
overflow_cast-number c =
    let v : Ready c.args.image.now c.args.by.0 c.args.on.0 c.args.right.0 = search rules in
    let i = room-left c.args.image.now c.told-image c.in_ok-place.ensures c.args.by.0 c.args.on.0 c.args.right.0 v in
    let l : get_or c.args.image.now 1 0 < 4294967296 = omega (arith, i.left) in
    search (rules, l)

pub returns : goal.returns
unfolding machine_of
returns c =
    let m = machine_of c.args.image.now in
    let e : lives m c.args.by.0 ≡ true = sym c.is_live.ensures ∙ c.if-not-is_live.false in
    let f : lives m c.args.on.0 ≡ true = sym c.is_live-2.ensures ∙ c.if-not-is_live-2.false in
    let h : holds m c.args.by.0 c.args.on.0 0 ≡ true = ap (λ (r : ℕ). holds m c.args.by.0 c.args.on.0 r) (sym c.edit.ensures) ∙ sym c.is_holder.ensures ∙ c.if-not-is_holder.false in
    let v : Ready c.args.image.now c.args.by.0 c.args.on.0 c.args.right.0 = search rules in
    let t : table m (Generate c.args.by.0 c.args.on.0 c.args.right.0) ≡ 0 = rw (e, f, h) (room_code c.args.image.now c.told-image c.in_ok-place.ensures) in (
      goes c.args.image.now c.put_ticket.new.image (Generate c.args.by.0 c.args.on.0 c.args.right.0) t c.put_ticket.ensures,
      rw t (found_is 0 _ refl),
    )
