-- Where the loop stands is `Scanned` (proofs/Places). A place is all zero (`both_zero`); or it is in order where it has a holder and is
-- sound (`sound_code`), and its number is put behind those before it.
use borrow.Author.Rules.{rules}
use native.Mathlib.Omega.{arith}
use mathlib.Core.Path.{◌≡◌, sym, ap, ap₂, ◌∙◌}
use Prim.Native.Nat.{ℕ, ◌%◌}
use lib.ListN.{get_or}
use Rattle.ticketing.specs.Order.{record_ok}
use Rattle.ticketing.specs.Image.{ticket_of, ticket_at}
use Rattle.tickets.proofs.Fields.{both_zero, live_code}
use Rattle.tickets.proofs.Places.{scanned-start, scanned-none, scanned-live, scanned-end}
use Rattle.tickets.proofs.gather.Goals as goal
use Rattle.tickets.proofs.gather.Goals.{then-w-h-ne0, else-w-h-ne0}

pub loop-k-init : goal.loop-k-init
loop-k-init c = scanned-start _ _

pub loop-k-preserved : goal.loop-k-preserved
loop-k-preserved c =
    let q = record_ok (get_or c.args.image.now 0 0) (get_or c.args.image.now 1 0) in
    let same : q (ticket_of c.record_at-w.result c.holders_at-h.result) ≡ q (ticket_at c.args.image.now c.loop-k.k) =
    ap₂ (λ w h. q (ticket_of w h)) c.record_at-w.ensures.0 c.holders_at-h.ensures.0 in
    elim c.if-w-h-ne0.branch [
      | then-w-h-ne0 w ↦
          let r = live_code c.record_at-w.result c.holders_at-h.result _ _ w.if-w-h-ne0.true w.is_sound.ensures in
          rw (w.buffer-is, w.sound-is, w.count-is)
          (scanned-live c.args.image.now c.told-image c.loop-k.invariant c.loop-k-test.true (c.record_at-w.result % 4294967296) _
          (r.0 ∙ same) (λ e z. r.1 e (c.holders_at-h.ensures.0 ∙ z))
          (ap (λ (x : ℕ). x % 4294967296) c.record_at-w.ensures.0) (search rules))
      | else-w-h-ne0 w ↦
          let z = both_zero c.record_at-w.result c.holders_at-h.result w.if-w-h-ne0.false in
          rw (w.buffer-is, w.sound-is, w.count-is)
          (scanned-none c.args.image.now c.told-image c.loop-k.invariant c.loop-k-test.true (sym same ∙ rw (z.0, z.1))
          (sym c.holders_at-h.ensures.0 ∙ z.1))
    ]

pub returns : goal.returns
returns c = rw c.then_some.ensures (scanned-end c.args.image.now c.told-image c.loop-k.invariant (omega arith) (omega arith))
