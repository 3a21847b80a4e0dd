use native.Mathlib.Omega.{arith}
use mathlib.Core.Path.{◌≡◌, ◌∙◌}
use Prim.Native.Nat.{ℕ, ◌+◌, ◌*◌, ◌%◌, ◌≤◌, ◌<◌}
use native.Mathlib.Nat.{mul-le-mul_left}
use Rattle.bits.specs.Bits.{bit}
use Rattle.bits.specs.Zeros.{chosen}
use Rattle.bits.proofs.WithBits.{marks_none, marks_more, with_bits_is}
use Rattle.bits.proofs.bytes.set_each.Goals as goal

-- the last byte is within the image, so each is
below : (step i : ℕ) → i < 64 → step * i ≤ step * 63
below step i h = mul-le-mul_left step (let z : i ≤ 63 = omega arith in z)

pub loop-i-init : goal.loop-i-init
loop-i-init c = marks_none (λ (i : ℕ). c.args.at + c.args.step * i) (bit c.args.set) (c.args.b % 8) c.args.image.now

pub loop-i-preserved : goal.loop-i-preserved
loop-i-preserved c =
    let e : c.loop-i.i % 64 ≡ c.loop-i.i = omega arith in
    marks_more (λ (i : ℕ). c.args.at + c.args.step * i) (bit c.args.set) (c.args.b % 8) c.args.image.now c.loop-i.i c.loop-i.image c.with_if.result c.loop-i.invariant
    (omega (arith, below c.args.step c.loop-i.i (omega arith)))
    (c.with_if.ensures ∙ rw (c.has.ensures, e))

pub returns : goal.returns
unfolding chosen
returns c =
    let e : c.loop-i.i ≡ 64 = omega arith in
    with_bits_is (chosen c.args.at c.args.step c.args.set) (c.args.b % 8) c.args.image.now _ (rw e at c.loop-i.invariant)
