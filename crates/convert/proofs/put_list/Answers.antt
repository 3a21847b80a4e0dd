-- At first the persons still to come are all of the list but those with every right (`list_open`). A turn puts one's bit in (`list_put`).
use mathlib.Core.Path.{◌≡◌, sym, ap, ◌∙◌}
use mathlib.Core.Bool.{not, ◌&&◌}
use Prim.Native.Nat.{ℕ, ◌+◌, ◌-◌, ◌*◌, ◌<◌}
use native.Mathlib.Omega.{arith}
use lib.ListN.{get_or}
use lib.Bits.{bit_and}
use Rattle.bits.specs.Bits.{bit}
use Rattle.bits.proofs.Bits.{bit_outside}
use Rattle.convert.specs.Blocks.{full_on}
use Rattle.convert.proofs.Turned.{left_bit, list_open, list_put, rows_close}
use Rattle.convert.proofs.put_list.Goals as goal

pub loop-p-init : goal.loop-p-init
loop-p-init c =
    let list = get_or c.args.source.now (1 + 8 * c.args.on + c.args.r) 0 in
    let o : (k : ℕ) → k < 64 → bit (bit_and list (18446744073709551615 - c.args.full)) k ≡ bit list k && not (bit (full_on c.args.source.now c.args.on) k)
    = λ k l. bit_outside 64 _ c.args.full k (omega arith) l ∙ ap (λ (x : ℕ). bit list k && not (bit x k)) c.requires.2 in
    rw c.into_iter-p-iterator.ensures.into_iter_gives
    (c.requires.3 ∙ list_open c.args.source.now c.args.on c.args.r _ c.requires.0 c.requires.1 o, λ k l b. sym (o k l) ∙ b)

pub loop-p-preserved : goal.loop-p-preserved
loop-p-preserved c =
    let s = c.in-Some.ensures.steps in
    let z : 8 + c.args.on + 64 * c.in-Some.p ≡ 8 + 64 * c.in-Some.p + c.args.on = omega arith in (
      rw z (list_put c.args.source.now c.args.on c.args.r c.in-Some.p c.loop-p.p-iterator.0 c.next.new.self.0 c.with.result c.loop-p.target c.requires.0 c.requires.1 s.0 c.loop-p.invariant.0
          (c.loop-p.invariant.1 c.in-Some.p s.0 s.1) (rw z at c.with.ensures) s.2),
      λ k h b. c.loop-p.invariant.1 k h (left_bit _ _ _ k s.2 b),
    )

pub returns : goal.returns
returns c =
    c.loop-p.invariant.0
    ∙ rows_close c.args.source.now (9 * c.args.on + 1 + c.args.r) _ c.loop-p.p-iterator.0 c.in-None.ensures.steps (omega arith)
