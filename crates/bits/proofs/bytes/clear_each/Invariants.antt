-- After j turns the first j of the spaced bytes are 0 and the others as before.
use lib.Dec.{eqb}
use Prim.Native.Nat.{◌+◌, ◌*◌}
use Rattle.bits.specs.Sets.{any_below}
use Rattle.bits.proofs.Strides.{Zeroed}
use Rattle.bits.proofs.bytes.clear_each.Given as goal

abbrev pub invariant-loop-j : goal.invariant-loop-j
invariant-loop-j l = Zeroed (λ k. any_below l.j (λ i. eqb k (l.at + l.step * i))) l.initial.image l.image
