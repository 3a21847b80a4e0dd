-- Behind what was there before stand the first i loans (`pick_more`, of a test that all pass); at the end these are all.
use mathlib.Core.Path.{◌≡◌}
use mathlib.Core.Bool.{true}
use mathlib.Core.List.{◌++◌}
use Prim.Native.Nat.{◌+◌}
use lib.ListN.{length, take}
use Rattle.bits.specs.Sets.{keep}
use Rattle.picking.proofs.copy.Given as goal

abbrev pub invariant-loop-i : goal.invariant-loop-i
invariant-loop-i l =
    (length l.out ≡ length l.initial.out) × (take (l.m + l.i) l.out ≡ take l.m l.initial.out ++ keep (λ w. true) (take l.i l.loans))
