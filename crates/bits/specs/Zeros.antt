-- Many cells written at once: code ends many grants so, and gives a grant to many.
use Rattle.std.specs.Prelude.{Bool, ◌&&◌, cond, List, ℕ, ◌+◌, ◌*◌, length, get_or, eqb}
use Rattle.bits.specs.Sets.{any_below, tabulate}
use Rattle.bits.specs.Bits.{bit, with_bit}

-- the image with f of its place and its value in each cell
unfoldable pub swept : (ℕ → ℕ → ℕ) → List ℕ → List ℕ
swept f s = tabulate (length s) (λ (k : ℕ). f k (get_or s k 0))

-- the image with 0 in each cell that passes
unfoldable pub zeroed : (ℕ → Bool) → List ℕ → List ℕ
zeroed f s = tabulate (length s) (λ (k : ℕ). cond (f k) 0 (get_or s k 0))

-- cell k is one of n: cell a, and each `step` further
unfoldable pub spaced : ℕ → ℕ → ℕ → ℕ → Bool
spaced a step n k = any_below n (λ (j : ℕ). eqb k (a + step * j))

-- the image with bit b too in each cell that passes
unfoldable pub with_bits : (ℕ → Bool) → ℕ → List ℕ → List ℕ
with_bits f b s = tabulate (length s) (λ (k : ℕ). cond (f k) (with_bit (get_or s k 0) b) (get_or s k 0))

-- cell k is that of a bit i of n below 64: cell a, and `step` further for each i
unfoldable pub chosen : ℕ → ℕ → ℕ → ℕ → Bool
chosen a step n k = any_below 64 (λ (i : ℕ). bit n i && eqb k (a + step * i))
