-- The masks of a live set.
use mathlib.Core.Path.{◌≡◌}
use mathlib.Core.Bool.{cond}
use mathlib.Core.List.{List}
use Prim.Native.Nat.{ℕ, ◌<◌}
use lib.ListN.{get_or}
use Rattle.bits.specs.Cells.{at}
use Rattle.layouts.specs.Live.{masks_of}
use Rattle.bits.proofs.Indexed.{get_d_tabulate}

-- the mask of an item
pub masks_at : (s d : List ℕ) → d ≡ masks_of s → (i : ℕ) → i < 64 → get_or d i 0 ≡ cond (at 8 s i) 0 255
unfolding masks_of
masks_at s d e i l = rw e (get_d_tabulate 64 _ i 0 l)
