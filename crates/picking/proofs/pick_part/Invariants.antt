-- Behind what was there before stand the loans of the key among the first i: each loan is written there, and the place moves on where
-- it counts (`pick_more`). The loop ends with i at the last.
use mathlib.Core.Path.{◌≡◌}
use Prim.Native.Nat.{◌+◌, ◌≤◌}
use lib.ListN.{length, take}
use mathlib.Core.List.{◌++◌}
use Rattle.bits.specs.Sets.{keep}
use Rattle.picking.specs.Runs.{of_key}
use Rattle.picking.proofs.pick_part.Given as goal

abbrev pub invariant-loop-w : goal.invariant-loop-w
invariant-loop-w l =
    (length l.out ≡ length l.initial.out) × (l.m ≤ l.m-2 + l.w-index) × (take l.m l.out ≡ take l.m-2 l.initial.out ++ keep (of_key l.key) (take l.w-index l.loans))
