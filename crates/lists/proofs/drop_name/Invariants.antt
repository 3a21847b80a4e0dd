-- After k turns the first k words are without the item's bit (`Swept`); at the end that is all of them (`swept_is`).
use Prim.Native.Nat.{◌%◌, ◌≤◌}
use lib.ListN.{length}
use Rattle.bits.specs.Bits.{without_bit}
use Rattle.bits.proofs.Sweep.{Swept}
use Rattle.lists.proofs.drop_name.Given as goal

abbrev pub invariant-loop-w : goal.invariant-loop-w
invariant-loop-w l = (l.w-index ≤ length l.initial.image) × Swept (λ k w. without_bit w (l.i.0 % 64)) l.initial.image l.w-index l.image
