-- A conversion between two of its steps: the image that is to come, without the blocks of places that are still to be put in.
use Rattle.std.specs.Prelude.{Bool, not, ◌&&◌, cond, List, ℕ, ◌+◌, ◌-◌, ◌*◌, leb, get_or}
use Rattle.bits.specs.Sets.{all_below}
use Rattle.bits.specs.Bits.{bit, of_bits}
use Rattle.bits.specs.Cells.{at, image}
use Rattle.layouts.specs.Layouts.{rows}

-- the image s of n cells without the bits that pass f
unfoldable pub lacking : ℕ → ℕ → (ℕ → Bool) → List ℕ → List ℕ
lacking w n f s = image w n (λ j. at w s j && not (f j))

-- bit j is of block t or a later one
unfoldable pub ahead : (ℕ → ℕ) → ℕ → ℕ → Bool
ahead block t j = leb 64 j && leb t (block (j - 64))

-- ---- lists to rows
-- the persons on all eight lists of an item
unfoldable pub full_on : List ℕ → ℕ → ℕ
full_on s on = of_bits 64 (λ p. all_below 8 (λ r. bit (get_or s (1 + 8 * on + r) 0) p))

-- the block of a place of rows, of nine for each item: first the persons with every right on it, then the others, a block for each right
unfoldable pub stage : List ℕ → ℕ → ℕ
stage s k = 9 * rows.item k + cond (bit (full_on s (rows.item k)) (rows.person k)) 0 (1 + rows.right k)
