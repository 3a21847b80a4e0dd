-- Laws of the loops that make the rounds and read a person's greatest entry off them.
use mathlib.Core.Path.{◌≡◌, sym, ap, ◌∙◌}
use mathlib.Core.Bool.{cond}
use mathlib.Core.List.{List, [], ◌∷◌, ◌++◌}
use Rattle.std.specs.List.{fold}
use mathlib.Core.Logic.{by_cases}
use Prim.Native.Nat.{ℕ, zero, suc, ◌+◌, ◌-◌, ◌≤◌, ◌<◌, max}
use native.Mathlib.Omega.{arith}
use native.Mathlib.Nat.{add-zero, add-suc}
use native.Mathlib.Numerals.{add-one}
use native.Mathlib.Decide.{ℕ_discrete}
use lib.Dec.{ltb}
use borrow.Author.Count.{below_more}
use lib.Bits.{bit_or, or_add_and, and_le_l, and_le_r}
use lib.ListN.{length, get_or, set, take, drop, length-drop, length-append, get_or-append}
use lib.Seq.{get_or-append-add, get_or-set_same, get_or-set_other, get_or-take, get_or-drop, length-take-le}
use Rattle.bits.specs.Sets.{most, first_at}
use Rattle.delegation.specs.Loans.{lender, borrower}
use Rattle.delegation.specs.Search.{gain, arrive, arriving, next_round, round_at}
use Rattle.delegation.proofs.Search.{arrive_here, arrive_else}
use Rattle.search.specs.Raised.{NoneAbove}

-- a store at p where all below p is as f says
pub fill_more : {A : Type 0} (f : ℕ → A) (d : A) (l : List A) (p : ℕ) (v : A) → p < length l → v ≡ f p
    → ((k : ℕ) → k < p → get_or l k d ≡ f k) → (k : ℕ) → k < p + 1 → get_or (set l p v) k d ≡ f k
fill_more f d l p v h e all =
    below_more (λ (k : ℕ). get_or (set l p v) k d ≡ f k) p (λ k lt. get_or-set_other l p k v d (omega arith) ∙ all k lt)
    (get_or-set_same l p v d h ∙ e)

pub most_more : (f : ℕ → ℕ) (i : ℕ) → most f (i + 1) ≡ max (most f i) (f i)
unfolding most
most_more f i = rw add-one

pub first_more : (f : ℕ → ℕ) (i : ℕ) → first_at f (i + 1) ≡ cond (ltb (most f i) (f i)) i (first_at f i)
unfolding first_at
first_more f i = rw add-one

pub round_more : (first ls : List ℕ) (k : ℕ) → round_at first ls (k + 1) ≡ next_round ls (round_at first ls k)
unfolding round_at
round_more first ls k = rw add-one

pub most_le : (f : ℕ → ℕ) (n b : ℕ) → ((k : ℕ) → k < n → f k ≤ b) → most f n ≤ b
unfolding most
most_le f zero b h = omega arith
most_le f (suc n) b h = let l = most_le f n b (λ k l. h k (omega arith)) in let m = h n (omega arith) in omega arith

pub arrive_le : (v w q : ℕ) → arrive v w q ≤ v - 1
arrive_le v w q =
    by_cases (ℕ_discrete (borrower w) q) (λ e. omega (arith, arrive_here v w q e)) (λ e. omega (arith, arrive_else v w q e))

max_assoc : (a b c : ℕ) → max (max a b) c ≡ max a (max b c)
max_assoc a b c = omega arith

-- one loan more, w, whose lender is p, raises its borrower's entry to what it passes on
module _ (ls round next : List ℕ) (g : ℕ → ℕ) (i p : ℕ) (from : p ≡ lender (get_or ls i 0)) (long : length next ≡ 64)
    (all : (q : ℕ) → q < 64 → get_or next q 0 ≡ max (g q) (most (arriving ls round q) i)) where
  abbrev w : ℕ
  w = get_or ls i 0

  pub raise_more : (q : ℕ) → q < 64
      → get_or (set next (borrower (get_or ls i 0)) (max (get_or next (borrower (get_or ls i 0)) 0) (gain (get_or round p 0) (get_or ls i 0)))) q 0
      ≡ max (g q) (most (arriving ls round q) (i + 1))
  raise_more q h =
      let b : ℕ = borrower w in
      let v : ℕ = gain (get_or round p 0) w in
      let u : ℕ = get_or round (lender w) 0 in
      let e : v ≡ gain u w = λ j. gain (get_or round (from j) 0) w in
      let m = most_more (arriving ls round q) i in
      let a = all q h in
      by_cases (ℕ_discrete b q)
      (λ d. (λ j. get_or (set next (d j) (max (get_or next (d j) 0) v)) q 0) ∙ get_or-set_same next q _ 0 (omega arith)
      ∙ (λ j. max (a j) v) ∙ max_assoc (g q) (most (arriving ls round q) i) v
      ∙ (λ j. max (g q) (max (most (arriving ls round q) i) ((e ∙ sym (arrive_here u w q d)) j))) ∙ ap (max (g q)) (sym m))
      (λ d. get_or-set_other next b q _ 0 (λ x. d (sym x)) ∙ (let r = arrive_else u w q d in omega arith))

-- some loans more: those from place i on, n of them
module _ (ls round : List ℕ) (q i n : ℕ) (inside : i + n ≤ length ls) where
  abbrev part : List ℕ
  part = take n (drop i ls)

  part_at : (j : ℕ) → j < n → arriving part round q j ≡ arriving ls round q (i + j)
  part_at j h =
      let e : get_or part j 0 ≡ get_or ls (i + j) 0 = get_or-take n (drop i ls) j 0 h ∙ get_or-drop i ls j 0 in
      λ k. arrive (get_or round (lender (e k)) 0) (e k) q

  most-part : (d : ℕ) → d ≤ n → max (most (arriving ls round q) i) (most (arriving part round q) d) ≡ most (arriving ls round q) (i + d)
  unfolding most
  most-part zero h = rw add-zero (omega arith)
  most-part (suc d) h = rw add-suc (omega (arith, most-part d (omega arith), part_at d (omega arith)))

  pub raise_part : (before entry : ℕ) → before ≡ most (arriving ls round q) i
      → entry ≡ max before (most (arriving (take n (drop i ls)) round q) (length (take n (drop i ls))))
      → entry ≡ most (arriving ls round q) (i + n)
  raise_part before entry e f =
      let l : length part ≡ n = length-take-le n (drop i ls) (simp length-drop (omega arith)) in
      f ∙ (λ j. max (e j) (most (arriving part round q) (l j))) ∙ most-part n (omega arith)

-- one loan more, whose lender is p: what is ORed is no less than either
pub above_more : (ls round : List ℕ) (j p all : ℕ) → p ≡ lender (get_or ls j 0)
    → ((k : ℕ) → k < j → get_or round (lender (get_or ls k 0)) 0 ≤ all)
    → (k : ℕ) → k < j + 1 → get_or round (lender (get_or ls k 0)) 0 ≤ bit_or all (get_or round p 0)
above_more ls round j p all e so_far =
    let v : ℕ = get_or round p 0 in
    let o = or_add_and all v in
    let l = and_le_l all v in
    let r = and_le_r all v in
    below_more (λ (k : ℕ). get_or round (lender (get_or ls k 0)) 0 ≤ bit_or all (get_or round p 0)) j (λ k h. omega (arith, so_far k h))
    (omega (arith, ap (λ (n : ℕ). get_or round n 0) e))

-- loans of lenders with an entry of at most 1 pass nothing on
pub raise_none : (ls round : List ℕ) (q r : ℕ) → NoneAbove r ls round → r ≤ 1 → most (arriving ls round q) (length ls) ≡ 0
raise_none ls round q r none h =
    let m = most_le (arriving ls round q) (length ls) 0 (λ i l. let w : ℕ = get_or ls i 0 in
    omega (arith, none i l, arrive_le (get_or round (lender w) 0) w q)) in
    omega arith

-- one entry more: the greatest so far and its place, m and at, become n and to
pub best_more : (f : ℕ → ℕ) (k m at n to : ℕ) → m ≡ most f k → at ≡ first_at f k → n ≡ max m (f k) → to ≡ cond (ltb m (f k)) k at
    → (n ≡ most f (k + 1)) × (to ≡ first_at f (k + 1))
best_more f k m at n to e e' h h' =
    (h ∙ (λ j. max (e j) (f k)) ∙ sym (most_more f k), h' ∙ (λ j. cond (ltb (e j) (f k)) k (e' j)) ∙ sym (first_more f k))

-- the greatest of all, from the front
most_first : (f : ℕ → ℕ) (n : ℕ) → most f (suc n) ≡ max (f 0) (most (λ (i : ℕ). f (suc i)) n)
unfolding most
most_first f zero = omega arith
most_first f (suc n) = let m = most_first f n in omega arith

pub fold-most : (a : ℕ) (xs : List ℕ) → fold (λ b x. max b x) a xs ≡ max a (most (λ (p : ℕ). get_or xs p 0) (length xs))
unfolding most
fold-most a [] = omega arith
fold-most a (x ∷ xs) = let f = fold-most (max a x) xs in let m = most_first (λ (p : ℕ). get_or (x ∷ xs) p 0) (length xs) in omega (arith, f, m)

-- one loan more behind the others
pub above-push : (ls round : List ℕ) (w all r : ℕ) → r ≡ bit_or all (get_or round (lender w) 0) → NoneAbove all ls round
    → NoneAbove r (ls ++ (w ∷ [])) round
above-push ls round w all r e n j l =
    let n1 : length (ls ++ (w ∷ [])) ≡ length ls + 1 = simp length-append (omega arith) in
    let here : get_or (ls ++ (w ∷ [])) (length ls) 0 ≡ w
    = ap (λ (m : ℕ). get_or (ls ++ (w ∷ [])) m 0) (sym (add-zero (length ls))) ∙ get_or-append-add ls (w ∷ []) 0 0 in
    rw e (above_more (ls ++ (w ∷ [])) round (length ls) (lender w) all (ap lender (sym here))
    (λ k h. rw (get_or-append ls (w ∷ []) 0 k h) (n k h)) j (omega arith))
