-- Behind what was there before stand the loans of the key among those of the blocks so far; each block puts those of 16 more there, and
-- the part after the last block the rest (`appended_more`).
use mathlib.Core.Path.{◌≡◌}
use Prim.Native.Nat.{◌+◌, ◌*◌, ◌≤◌}
use lib.ListN.{length, take}
use mathlib.Core.List.{◌++◌}
use Rattle.bits.specs.Sets.{keep}
use Rattle.picking.specs.Runs.{of_key}
use Rattle.picking.proofs.pick_run.Given as goal

abbrev pub invariant-loop-block : goal.invariant-loop-block
invariant-loop-block l =
    (length l.out ≡ length l.initial.out) × (l.m ≤ l.m-2 + l.block-index * 16)
    × (take l.m l.out ≡ take l.m-2 l.initial.out ++ keep (of_key l.key) (take (l.block-index * 16) l.loans))
