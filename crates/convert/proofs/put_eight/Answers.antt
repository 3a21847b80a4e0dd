-- At first all that the eight bytes have is still to come (`lists_open`). A turn puts one of them in (`lists-put`).
use mathlib.Core.Path.{refl, sym, ap, ◌∙◌}
use Prim.Native.Nat.{ℕ}
use Rattle.bits.specs.Bits.{bit}
use Rattle.convert.proofs.Turned.{left_bit, lists_open, lists-put, lists_close}
use Rattle.convert.proofs.put_eight.Goals as goal

pub loop-b-init : goal.loop-b-init
loop-b-init c =
    rw c.into_iter-b-iterator.ensures.into_iter_gives
    (c.requires.1 ∙ lists_open c.args.source.now c.args.t _ c.requires.0 c.eight.ensures, λ i h. ap (λ (x : ℕ). bit x i) (sym c.eight.ensures) ∙ h)

pub loop-b-preserved : goal.loop-b-preserved
loop-b-preserved c =
    let s = c.in-Some.ensures.steps in (
      lists-put c.args.source.now c.args.t c.in-Some.b _ c.loop-b.b-iterator.0 c.next.new.self.0 c.with.result c.loop-b.target c.requires.0 s.0 refl c.loop-b.invariant.0
          (c.loop-b.invariant.1 c.in-Some.b s.1) c.with.ensures s.2,
      λ i h. c.loop-b.invariant.1 i (left_bit _ _ _ i s.2 h),
    )

pub returns : goal.returns
returns c = c.loop-b.invariant.0 ∙ lists_close c.args.source.now c.args.t c.loop-b.b-iterator.0 c.in-None.ensures.steps
