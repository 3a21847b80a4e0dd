-- After r turns the target is the rows to come without the lists of this item from r on and the items after it. After 8 that is
-- without the items after it.
use mathlib.Core.Path.{◌≡◌}
use Prim.Native.Nat.{◌+◌, ◌*◌}
use Rattle.layouts.specs.Layouts.{lists, rows}
use Rattle.layouts.specs.Convert.{convert}
use Rattle.convert.specs.Blocks.{lacking, ahead, stage}
use Rattle.convert.proofs.put_lists.Given as goal

abbrev pub invariant-loop-r : goal.invariant-loop-r
invariant-loop-r l =
    l.target ≡ lacking 8 4104 (ahead (stage l.source) (9 * l.on + 1 + l.r)) (convert lists rows l.source)
