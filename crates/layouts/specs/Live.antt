-- The live set of an image of bytes as masks, for a scan: no bits where the item lives, all eight where it is dead.
use Rattle.std.specs.Prelude.{cond, List, ℕ}
use Rattle.bits.specs.Sets.{tabulate}
use Rattle.bits.specs.Cells.{at}

-- a mask for each of the 64 items
unfoldable pub masks_of : List ℕ → List ℕ
masks_of s = tabulate 64 (λ (i : ℕ). cond (at 8 s i) 0 255)
