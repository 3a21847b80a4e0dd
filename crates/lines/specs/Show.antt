-- Text written into a buffer, a number as decimal digits, and a set as hexadecimal digits.
use Rattle.std.specs.Prelude.{◌≡◌, cond, List, [], ◌∷◌, ◌++◌, ℕ, zero, suc, ◌+◌, ◌/◌, ◌%◌, length, ltb}
use Rattle.std.proofs.lemmas.List.Edits.{sets}

-- the digits of n, at most f of them
abbrev pub shown_in : ℕ → ℕ → List ℕ
shown_in zero n = []
shown_in (suc f) n = cond (ltb n 10) ((48 + n) ∷ []) (shown_in f (n / 10) ++ ((48 + n % 10) ∷ []))

-- the decimal digits of n, highest first, with no leading zero
unfoldable pub shown : ℕ → List ℕ
shown n = shown_in (suc n) n

-- the digit of a number below 16: `0` to `9`, then `a` to `f`
abbrev pub hex_digit : ℕ → ℕ
hex_digit n = cond (ltb n 10) (48 + n) (87 + n)

-- the last k hexadecimal digits of n, highest first
abbrev pub hex_digits : ℕ → ℕ → List ℕ
hex_digits zero n = []
hex_digits (suc k) n = hex_digits k (n / 16) ++ (hex_digit (n % 16) ∷ [])

-- a set, 'a 64-bit number, in lines 16 lowercase hexadecimal digits, highest first, bit i for item i'
unfoldable pub shown_set : ℕ → List ℕ
shown_set n = hex_digits 16 n

-- the bytes xs, written into b from a place on, leave b'; r is the place after them
pub record Wrote (b : List ℕ) (at : ℕ) (xs : List ℕ) (r : ℕ) (b' : List ℕ) : Type 0 where
  pub place : r ≡ at + length xs
  pub buffer : b' ≡ sets b at xs
