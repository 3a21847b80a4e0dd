-- After n turns the target is the image to come without the items from n on (`lacking`, `ahead`). Each place is of one of 64
-- items, so at the end none is missing (`rows_end`).
use mathlib.Core.Path.{◌≡◌}
use Prim.Native.Nat.{◌*◌}
use Rattle.layouts.specs.Layouts.{lists, rows}
use Rattle.layouts.specs.Convert.{convert}
use Rattle.convert.specs.Blocks.{lacking, ahead, stage}
use Rattle.convert.proofs.fill_rows.Given as goal

abbrev pub invariant-loop-on : goal.invariant-loop-on
invariant-loop-on l =
    l.target ≡ lacking 8 4104 (ahead (stage l.source) (9 * l.on)) (convert lists rows l.source)
