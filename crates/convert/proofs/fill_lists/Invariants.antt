-- After t turns the target is the image to come without the blocks from t on (`lacking`, `ahead`), a block being eight bytes of a
-- row. Each place is of one of 512 blocks, so at the end none is missing (`lists-end`).
use mathlib.Core.Path.{◌≡◌}
use Rattle.layouts.specs.Layouts.{lists, rows}
use Rattle.layouts.specs.Convert.{convert}
use Rattle.convert.specs.Blocks.{lacking, ahead}
use Rattle.convert.proofs.Turned.{eights}
use Rattle.convert.proofs.fill_lists.Given as goal

abbrev pub invariant-loop-t : goal.invariant-loop-t
invariant-loop-t l =
    l.target ≡ lacking 64 513 (ahead eights l.t) (convert rows lists l.source)
