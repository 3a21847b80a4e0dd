-- What a chain of iterators returns, in the words of `Sets`.
use mathlib.Core.Path.{◌≡◌, refl, ap, ap₂, ◌∙◌, sym}
use mathlib.Core.Bool.{Bool, ◌&&◌, and_comm, and-true}
use Prim.Native.Nat.{ℕ, zero, suc, ◌+◌}
use native.Mathlib.Nat.{zero-add}
use native.Mathlib.Omega.{arith}
use Rattle.std.specs.List.{list_all, range_with_len}
use Rattle.bits.specs.Sets.{all_below}
use Rattle.bits.proofs.Indexed.{below-add, below_ext}

-- n numbers from a on
all-from : (f : ℕ → Bool) (a n : ℕ) → list_all f (range_with_len a n) ≡ all_below n (λ i. f (a + i))
unfolding all_below
all-from f a zero = refl
all-from f a (suc n) =
    let z : suc n ≡ 1 + n = omega arith in
    ap₂ (λ b c. b && c) (ap f (let e : a ≡ a + 0 = omega arith in e))
    (all-from f (a + 1) n ∙ below_ext n _ _ (λ i l. ap f (let e : a + 1 + i ≡ a + (1 + i) = omega arith in e)))
    ∙ and_comm (f (a + 0)) (all_below n (λ i. f (a + (1 + i))))
    ∙ sym (ap (λ (k : ℕ). all_below k (λ i. f (a + i))) z ∙ below-add 1 n (λ i. f (a + i)) ∙ ap (λ b. all_below n (λ i. f (a + (1 + i))) && b) (and-true (f (a + 0))))

pub all-range : (f : ℕ → Bool) (n : ℕ) → list_all f (range_with_len 0 n) ≡ all_below n f
all-range f n = all-from f 0 n ∙ below_ext n _ f (λ i l. ap f (zero-add i))
