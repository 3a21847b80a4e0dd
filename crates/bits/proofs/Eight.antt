-- A word as its eight bytes, least first: `from_le_bytes` and `to_le_bytes` by the bits.
use mathlib.Core.Path.{◌≡◌, refl, sym, ap, ◌∙◌}
use mathlib.Core.Bool.{Bool, cond}
use mathlib.Core.List.{List}
use Prim.Native.Nat.{ℕ, zero, suc, ◌+◌, ◌-◌, ◌*◌, ◌/◌, ◌%◌, ◌^◌, ◌<◌}
use native.Mathlib.Nat.{add_comm, div-one, pow-succ'}
use native.Mathlib.Omega.{arith}
use borrow.Author.Tests.{ltb-true, ltb-false}
use lib.ListN.{get_or}
use lib.Dec.{ltb}
use lib.Pow.{pow-add}
use Rattle.std.specs.Int.{w64, sum_through, byte_worth, from_le_bytes, to_le_bytes}
use Rattle.std.proofs.lemmas.Nat.{mul-add-lt}
use Rattle.bits.specs.Bits.{bit, of_bits}
use Rattle.bits.proofs.Sets.{by_cases}
use Rattle.bits.proofs.Bits.{ext, of_bits_lt, bit-of_bits}
use Rattle.bits.proofs.Lowest.{bit_block}

-- 2 ^ 8 to the power n
pow_bytes : (n : ℕ) → 256 ^ n ≡ 2 ^ (8 * n)
pow_bytes zero = refl
pow_bytes (suc n) =
    let p : 2 ^ (8 * suc n) ≡ 2 ^ (8 * n) * 2 ^ 8 = ap (λ (x : ℕ). 2 ^ x) (let e : 8 * suc n ≡ 8 * n + 8 = omega arith in e) ∙ pow-add 2 (8 * n) 8 in
    omega (arith, pow-succ' 256 n, pow_bytes n)

-- the bytes up to byte k, whose bits are those of f
module _ (s : List ℕ) (f : ℕ → Bool) (fits : (k : ℕ) → k < 8 → get_or s k 0 < 256)
    (same : (k b : ℕ) → k < 8 → b < 8 → bit (get_or s k 0) b ≡ f (8 * k + b)) where
  through : (k : ℕ) → k < 8 → sum_through (λ i. byte_worth i (get_or s i 0)) k ≡ of_bits (8 * suc k) f
  through zero l =
      ext 8 (get_or s 0 0) _ (fits 0 l) (of_bits_lt 8 f) (λ i h. same 0 i l h ∙ ap f (let e : 8 * 0 + i ≡ i = omega arith in e) ∙ sym (bit-of_bits 8 f i h))
  through (suc k) l =
      rw (through k (omega arith), pow_bytes (suc k))
      (ext (8 * suc (suc k)) (low + top * 2 ^ (8 * suc k)) _ small (of_bits_lt (8 * suc (suc k)) f)
      (λ i h. ap (λ (x : ℕ). bit x i) (add_comm low (top * 2 ^ (8 * suc k))) ∙ bit_block (8 * suc k) top low i below
      ∙ each i h ∙ sym (bit-of_bits (8 * suc (suc k)) f i h)))
    where
      low : ℕ
      low = of_bits (8 * suc k) f

      top : ℕ
      top = get_or s (suc k) 0

      below : low < 2 ^ (8 * suc k)
      below = of_bits_lt (8 * suc k) f

      small : low + top * 2 ^ (8 * suc k) < 2 ^ (8 * suc (suc k))
      small =
          let p : 2 ^ (8 * suc (suc k)) ≡ 2 ^ (8 * suc k) * 2 ^ 8 = ap (λ (x : ℕ). 2 ^ x) (let e : 8 * suc (suc k) ≡ 8 * suc k + 8 = omega arith in e)
          ∙ pow-add 2 (8 * suc k) 8 in
          omega (arith, mul-add-lt top (2 ^ (8 * suc k)) low 256 (fits (suc k) l) below)

      each : (i : ℕ) → i < 8 * suc (suc k) → cond (ltb i (8 * suc k)) (bit low i) (bit top (i - 8 * suc k)) ≡ f i
      each i h =
          by_cases (ltb i (8 * suc k)) (λ t. rw t (bit-of_bits (8 * suc k) f i (ltb-true i (8 * suc k) t)))
          (λ t. let u = ltb-false i (8 * suc k) t in
          rw t (same (suc k) (i - 8 * suc k) l (omega arith) ∙ ap f (let e : 8 * suc k + (i - 8 * suc k) ≡ i = omega arith in e)))

  pub of_bytes : from_le_bytes w64 s ≡ of_bits 64 f
  of_bytes = through 7 (omega arith)

-- byte k
pub byte_of : (n k : ℕ) → k < 8 → get_or (to_le_bytes w64 n) k 0 ≡ n / 2 ^ (8 * k) % 2 ^ 8
byte_of n zero l = ap (λ (x : ℕ). x % 256) (sym (div-one n))
byte_of n (suc zero) l = refl
byte_of n (suc (suc zero)) l = refl
byte_of n (suc (suc (suc zero))) l = refl
byte_of n (suc (suc (suc (suc zero)))) l = refl
byte_of n (suc (suc (suc (suc (suc zero))))) l = refl
byte_of n (suc (suc (suc (suc (suc (suc zero)))))) l = refl
byte_of n (suc (suc (suc (suc (suc (suc (suc zero))))))) l = refl
byte_of n (suc (suc (suc (suc (suc (suc (suc (suc k)))))))) l = absurd (omega arith)
