-- Laws of the loop that reads a chain off the rounds, and of the loop that finds a lender for it.
use mathlib.Core.Path.{◌≡◌, refl, sym, ap, ◌∙◌}
use mathlib.Core.Bool.{Bool, true, false, cond}
use mathlib.Core.List.{List, [], ◌∷◌, ◌++◌, append_assoc}
use Prim.Native.Nat.{ℕ, zero, suc, ◌+◌, ◌-◌, ◌≤◌, ◌<◌}
use native.Mathlib.Omega.{arith}
use native.Mathlib.Numerals.{add-one}
use native.Mathlib.Nat.{add-zero, suc-sub-suc, sub-zero, zero-sub}
use lib.Dec.{eqb}
use borrow.Author.Tests.{eq-eqb, ne_eqb}
use lib.ListN.{length, get_or, set, drop, replicate, length-set}
use lib.Seq.{get_or-set_same, drop-cons, drop-set-lt}
use Rattle.delegation.specs.Loans.{lender}
use Rattle.delegation.specs.Search.{arriving, column, lender_to, traced}

-- the last of the first i + 1 loans, which passes x on to q
module _ (ls round : List ℕ) (q v i x : ℕ) (got : x ≡ arriving ls round q i) where
  last : lender_to ls round q v (i + 1) ≡ cond (eqb (arriving ls round q i) v) (lender (get_or ls i 0)) (lender_to ls round q v i)
  unfolding lender_to
  last = rw add-one refl

  pub lender_here : x ≡ v → lender_to ls round q v (i + 1) ≡ lender (get_or ls i 0)
  lender_here e = last ∙ rw (eq-eqb _ _ (sym got ∙ e))

  pub lender_else : (x ≡ v → ⊥) → lender_to ls round q v (i + 1) ≡ lender_to ls round q v i
  lender_else ne = last ∙ rw (ne_eqb _ _ (λ e. ne (got ∙ e)))

-- loans that pass another number on
pub lender_skip : (ls round : List ℕ) (q v i d : ℕ) → ((j : ℕ) → i ≤ j → j < i + d → arriving ls round q j ≡ v → ⊥)
    → lender_to ls round q v (i + d) ≡ lender_to ls round q v i
lender_skip ls round q v i zero ne = ap (lender_to ls round q v) (add-zero i)
lender_skip ls round q v i (suc d) ne =
    let e : i + suc d ≡ i + d + 1 = omega arith in
    ap (lender_to ls round q v) e ∙ lender_else ls round q v (i + d) _ refl (ne (i + d) (omega arith) (omega arith))
    ∙ lender_skip ls round q v i d (λ j h l. ne j h (omega arith))

pub lender_lt : (ls round : List ℕ) (q v n : ℕ) → lender_to ls round q v n < 64
unfolding lender_to
lender_lt ls round q v zero = omega arith
lender_lt ls round q v (suc i) = go (eqb (arriving ls round q i) v) (lender_lt ls round q v i)
  where
    go : (b : Bool) → lender_to ls round q v i < 64 → cond b (lender (get_or ls i 0)) (lender_to ls round q v i) < 64
    go true h = omega arith
    go false h = h

-- a store at k is the first of what is left from k on
drop-at-set : (l : List ℕ) (k q : ℕ) → k < length l → drop k (set l k q) ≡ q ∷ drop (suc k) l
drop-at-set l k q h =
    drop-cons (set l k q) k 0 (simp length-set h)
    ∙ (λ j. get_or-set_same l k q 0 h j ∷ drop-set-lt (suc k) l k q (omega arith) j)

-- one person more, written in place k, before those that follow
pub traced-step : (rounds : List (List ℕ)) (ls l : List ℕ) (k q : ℕ) → 0 < k → k < length l
    → traced rounds ls k q ++ drop (suc k) l
    ≡ traced rounds ls (k - 1) (lender_to ls (get_or rounds (k - 1) []) q (column rounds q k) (length ls)) ++ drop (suc (k - 1)) (set l k q)
unfolding traced
traced-step rounds ls l zero q p h = absurd (omega arith)
traced-step rounds ls l (suc k) q p h =
    let e : suc k - 1 ≡ k = omega arith in
    append_assoc (traced rounds ls k (lender_to ls (get_or rounds k []) q (column rounds q (suc k)) (length ls))) (q ∷ [])
    (drop (suc (suc k)) l)
    ∙ rw e (rw (drop-at-set l (suc k) q h) refl)

pub traced-end : (rounds : List (List ℕ)) (ls l : List ℕ) (q : ℕ) → 0 < length l → traced rounds ls 0 q ++ drop 1 l ≡ set l 0 q
unfolding traced
traced-end rounds ls [] q h = absurd (omega arith)
traced-end rounds ls (x ∷ l) q h = refl

-- the chain depends on the rounds before its own, and on its last person's entry in that
pub traced_ext : (r s : List (List ℕ)) (ls : List ℕ) (k q : ℕ) → ((j : ℕ) → j < k → get_or r j [] ≡ get_or s j []) → column r q k ≡ column s q k
    → traced r ls k q ≡ traced s ls k q
unfolding traced
traced_ext r s ls zero q e here = refl
traced_ext r s ls (suc k) q e here =
    let p : ℕ = lender_to ls (get_or r k []) q (column r q (suc k)) (length ls) in
    let below = e k (omega arith) in
    ap (λ (l : List ℕ). l ++ (q ∷ []))
    (traced_ext r s ls k p (λ j h. e j (omega arith)) (λ j. get_or (below j) p 0)
    ∙ (λ j. traced s ls k (lender_to ls (below j) q (here j) (length ls))))

drop-replicate : (j n : ℕ) (a : ℕ) → drop j (replicate n a) ≡ replicate (n - j) a
drop-replicate zero n a = rw sub-zero refl
drop-replicate (suc j) zero a = rw zero-sub refl
drop-replicate (suc j) (suc n) a = drop-replicate j n a ∙ rw suc-sub-suc refl

-- what stands after the end of a chain with `at` loans
pub padding : (at : ℕ) → at < 8 → drop {A = ℕ} (suc at) (replicate 8 255) ≡ replicate (7 - at) 255
padding at h =
    let e : 8 - suc at ≡ 7 - at = omega arith in
    drop-replicate (suc at) 8 255 ∙ (λ j. replicate (e j) 255)
