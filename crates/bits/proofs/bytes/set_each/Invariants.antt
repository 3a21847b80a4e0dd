-- After i turns the bytes of the bits below i have their bit, and the others are as before.
use lib.Dec.{eqb}
use mathlib.Core.Bool.{◌&&◌}
use Prim.Native.Nat.{◌+◌, ◌*◌, ◌%◌}
use Rattle.bits.specs.Sets.{any_below}
use Rattle.bits.specs.Bits.{bit}
use Rattle.bits.proofs.WithBits.{Marks}
use Rattle.bits.proofs.bytes.set_each.Given as goal

abbrev pub invariant-loop-i : goal.invariant-loop-i
invariant-loop-i l =
    Marks (λ k. any_below l.i (λ n. bit l.set n && eqb k (l.at + l.step * n))) (l.b % 8) l.initial.image l.image
