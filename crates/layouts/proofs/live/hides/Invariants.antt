-- After p turns (`p-counter`, since the closure borrows p) the bits gathered are 0 exactly where the masks show nothing of the first p bytes of each row.
use mathlib.Core.Path.{◌≡◌}
use Prim.Native.Nat.{ℕ, ◌+◌, ◌*◌}
use lib.ListN.{get_or}
use lib.Bits.{bit_and, bit_or}
use lib.Dec.{eqb}
use Rattle.bits.specs.Sets.{all_below}
use Rattle.layouts.proofs.live.hides.Given as goal

abbrev pub invariant-loop-p : goal.invariant-loop-p
invariant-loop-p l =
    eqb l.bits 0 ≡ all_below l.p-counter
    (λ (k : ℕ). all_below 8 (λ (i : ℕ). eqb (bit_and (get_or l.block (k + 64 * i) 0) (bit_or l.all (get_or l.masks k 0))) 0))
