-- Words by chunks of the same length, as `as_chunks` gives them.
use mathlib.Core.Path.{◌≡◌, sym, ap, ◌∙◌}
use mathlib.Core.List.{List, []}
use Prim.Native.Nat.{ℕ, zero, suc, ◌*◌, ◌<◌}
use native.Mathlib.Omega.{arith}
use native.Mathlib.Nat.{zero-mul, suc-mul, add_comm}
use lib.ListN.{get_or, take, drop}
use Rattle.std.specs.Simd.{first_chunks}
use Rattle.std.proofs.lemmas.List.{drop-drop}

-- what is left behind one chunk more
pub drop_chunk : (n k : ℕ) (xs : List ℕ) → drop (k * n) (drop n xs) ≡ drop (suc k * n) xs
drop_chunk n k xs = drop-drop (k * n) n xs ∙ ap (λ (m : ℕ). drop m xs) (sym (suc-mul k n ∙ add_comm (k * n) n))

pub chunk_at : (n k : ℕ) (xs : List ℕ) (i : ℕ) → i < k → get_or (first_chunks n k xs) i [] ≡ take n (drop (i * n) xs)
chunk_at n zero xs i l = absurd (omega arith)
chunk_at n (suc k) xs zero l = ap (λ (m : ℕ). take n (drop m xs)) (sym (zero-mul n))
chunk_at n (suc k) xs (suc i) l = chunk_at n k (drop n xs) i (omega arith) ∙ ap (take n) (drop_chunk n i xs)
