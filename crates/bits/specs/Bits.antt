-- The bits of a number, for any width. `with_bit` and `without_bit` are by arithmetic, so that they compute on numerals.
use Rattle.std.specs.Prelude.{Bool, cond, ℕ, zero, suc, ◌+◌, ◌-◌, ◌*◌, ◌/◌, ◌%◌, ◌^◌, eqb, List}
use Rattle.std.specs.Int.Bits.{bit_or}
use Rattle.bits.specs.Sets.{keep, tabulate}

-- bit i of n
unfoldable pub bit : ℕ → ℕ → Bool
bit n i = eqb (n / 2 ^ i % 2) 1

-- n with bit i
unfoldable pub with_bit : ℕ → ℕ → ℕ
with_bit n i = cond (bit n i) n (n + 2 ^ i)

-- n without bit i
unfoldable pub without_bit : ℕ → ℕ → ℕ
without_bit n i = cond (bit n i) (n - 2 ^ i) n

-- the number below 2 ^ w whose bits are those of f
unfoldable pub of_bits : ℕ → (ℕ → Bool) → ℕ
of_bits zero f = 0
of_bits (suc w) f = of_bits w (λ i. f (suc i)) * 2 + cond (f 0) 1 0

-- the bits of n below w, rising
unfoldable pub members : ℕ → ℕ → List ℕ
members w n = keep (bit n) (tabulate w (λ (i : ℕ). i))

-- ---- the numbers f 0, .., f (n - 1) ORed
unfoldable pub or_below : ℕ → (ℕ → ℕ) → ℕ
or_below zero f = 0
or_below (suc n) f = bit_or (or_below n f) (f n)
