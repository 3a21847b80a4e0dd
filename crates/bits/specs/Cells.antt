-- Images: a buffer is an array of bits, in cells of w bits each, lowest bit first.
use Rattle.std.specs.Prelude.{Bool, List, ℕ, ◌+◌, ◌*◌, ◌/◌, ◌%◌, get_or}
use Rattle.bits.specs.Sets.{tabulate}
use Rattle.bits.specs.Bits.{bit, of_bits}

-- bit k of the image
unfoldable pub at : ℕ → List ℕ → ℕ → Bool
at w s k = bit (get_or s (k / w) 0) (k % w)

-- the image of n cells whose bits are those of f
unfoldable pub image : ℕ → ℕ → (ℕ → Bool) → List ℕ
image w n f = tabulate n (λ c. of_bits w (λ b. f (c * w + b)))
