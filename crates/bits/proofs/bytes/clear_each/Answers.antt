use native.Mathlib.Omega.{arith}
use mathlib.Core.Path.{◌≡◌}
use Prim.Native.Nat.{ℕ, suc, ◌+◌, ◌*◌, ◌≤◌, ◌<◌}
use native.Mathlib.Nat.{mul-suc, mul-le-mul_left}
use Rattle.bits.specs.Zeros.{spaced}
use Rattle.bits.proofs.Strides.{zeroed-none, zeroed_more}
use Rattle.bits.proofs.Zeros.{zeroed_is}
use Rattle.bits.proofs.bytes.clear_each.Goals as goal

-- the last byte is within the image, so each is
below : (step j count : ℕ) → j < count → step * j + step ≤ step * count
below step j count h = rw (← mul-suc step j) (mul-le-mul_left step (let z : suc j ≤ count = omega arith in z))

pub loop-j-init : goal.loop-j-init
loop-j-init c = zeroed-none _ _

pub loop-j-preserved : goal.loop-j-preserved
loop-j-preserved c =
    zeroed_more (λ (i : ℕ). c.args.at + c.args.step * i) _ c.loop-j.j c.loop-j.image c.loop-j.invariant
    (omega (arith, below c.args.step c.loop-j.j c.args.count (omega arith)))

pub returns : goal.returns
unfolding spaced
returns c =
    let e : c.loop-j.j ≡ c.args.count = omega arith in
    zeroed_is (spaced c.args.at c.args.step c.args.count) c.args.image.now _ (rw e at c.loop-j.invariant)
