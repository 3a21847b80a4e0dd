-- After n turns the bits gathered are 0 exactly where the lists of the first n items are in order (`scan_more`); at the end n is 64.
use mathlib.Core.Path.{◌≡◌}
use Prim.Native.Nat.{◌≤◌}
use lib.Dec.{eqb}
use Rattle.bits.specs.Sets.{all_below}
use Rattle.layouts.specs.Layouts.{lists}
use Rattle.layouts.specs.Order.{block_ok}
use Rattle.lists.proofs.items_ok.Given as goal

abbrev pub invariant-loop-on : goal.invariant-loop-on
invariant-loop-on l = (l.on ≤ 64) × (eqb l.bad 0 ≡ all_below l.on (block_ok lists l.image 512))
