-- What one person is lent. Of the loans to a person the greatest depth for each lender is enough: a lender's entry passes on the most by
-- the deepest of its loans (`passed-next`), so a person's next entry is known without the rest of the round.
use mathlib.Core.Path.{◌≡◌, refl, sym, ap, ◌∙◌}
use mathlib.Core.Bool.{Bool, true, false, not, ◌&&◌, cond, and-false, and_assoc, and_comm, false≢true}
use mathlib.Core.List.{List, [], ◌∷◌, ◌++◌}
use mathlib.Core.Logic.{by_cases}
use Prim.Native.Nat.{ℕ, zero, suc, ◌+◌, ◌-◌, ◌≤◌, ◌<◌, min, max}
use native.Mathlib.Omega.{arith}
use native.Mathlib.Decide.{dec_lt, ℕ_discrete}
use borrow.Author.Tests.{eqb-true, eq-eqb, ne_eqb}
use lib.Dec.{eqb}
use lib.ListN.{length, get_or, set, take, drop, length-append, take-append-drop}
use Rattle.std.specs.List.{IsLastAndRest}
use Rattle.std.proofs.Math.Seq.{take-append_seam, get_or-append_seam, get_or-append_right}
use lib.Seq.{get_or-set_same, get_or-set_other, get_or-take, take-append-le, length-take-le}
use Rattle.bits.specs.Sets.{all, all_below, most, first_at}
use Rattle.delegation.specs.Loans.{lender, borrower, loan_depth}
use Rattle.delegation.specs.Search.{arrive, arriving, next_round, round_at, lender_to}
use Rattle.delegation.proofs.Search.{arrive_here, arrive_else}
use Rattle.bits.proofs.Sets.{fst, snd}
use Rattle.bits.proofs.Indexed.{get_d_tabulate, most_above, first-most, below_elim, below_none}
use Rattle.search.specs.Lending.{lending, lent_to, passed_on, is_to_other, ToOthers, First, LeftTo}
use Rattle.search.proofs.Rounds.{most_more, most_le, round_more}
use Rattle.search.proofs.Settling.{unchanged}
use Rattle.search.proofs.Trace.{lender_skip}

module _ (ls : List ℕ) (q p i : ℕ) where
  abbrev w : ℕ
  w = get_or ls i 0

  lending_here : lender (get_or ls i 0) ≡ p → borrower (get_or ls i 0) ≡ q → lending ls q p i ≡ loan_depth (get_or ls i 0) + 1
  lending_here e f = rw (eq-eqb _ _ e, eq-eqb _ _ f)

  lending_other : is_to_other q (get_or ls i 0) ≡ true → lending ls q p i ≡ 0
  lending_other = go (eqb (borrower w) q)
    where
      go : (b : Bool) → not b ≡ true → cond (eqb (lender w) p && b) (loan_depth w + 1) 0 ≡ 0
      go true e = absurd (false≢true e)
      go false e = rw (and-false (eqb (lender w) p))

  lending-inv : 0 < lending ls q p i → (lender (get_or ls i 0) ≡ p) × (borrower (get_or ls i 0) ≡ q)
      × (lending ls q p i ≡ loan_depth (get_or ls i 0) + 1)
  lending-inv = go (eqb (lender w) p && eqb (borrower w) q) refl
    where
      go : (b : Bool) → eqb (lender w) p && eqb (borrower w) q ≡ b → 0 < cond b (loan_depth w + 1) 0
          → (lender w ≡ p) × (borrower w ≡ q) × (cond b (loan_depth w + 1) 0 ≡ loan_depth w + 1)
      go true e h = (eqb-true _ _ (fst (eqb (lender w) p) _ e), eqb-true _ _ (snd (eqb (lender w) p) _ e), refl)
      go false e h = absurd (omega arith)

-- a test of all, place by place
below-first : (n : ℕ) (f : ℕ → Bool) → all_below (suc n) f ≡ f 0 && all_below n (λ (j : ℕ). f (suc j))
unfolding all_below
below-first zero f = refl
below-first (suc n) f =
    let rest : Bool = all_below n (λ (j : ℕ). f (suc j)) in
    ap (λ b. f (suc n) && b) (below-first n f)
    ∙ sym (and_assoc (f (suc n)) (f 0) rest) ∙ ap (λ b. b && rest) (and_comm (f (suc n)) (f 0)) ∙ and_assoc (f 0) (f (suc n)) rest

pub all-below : (p : ℕ → Bool) (xs : List ℕ) → all p xs ≡ all_below (length xs) (λ (j : ℕ). p (get_or xs j 0))
unfolding all
all-below p [] = sym (below_none _)
all-below p (x ∷ xs) = ap (λ b. p x && b) (all-below p xs) ∙ sym (below-first (length xs) (λ (j : ℕ). p (get_or (x ∷ xs) j 0)))

-- a loan to another passes nothing on
pub arrive_other : (v w q : ℕ) → is_to_other q w ≡ true → arrive v w q ≡ 0
arrive_other v w q t = arrive_else v w q (λ e. false≢true (sym (ap not (eq-eqb (borrower w) q e)) ∙ t))

-- ---- the first of the loans
module _ (ls xs : List ℕ) (first : First ls xs) where
  pub first_at_place : (j : ℕ) → j < length xs → get_or xs j 0 ≡ get_or ls j 0
  first_at_place j h = ap (λ (l : List ℕ). get_or l j 0) first.1 ∙ get_or-take (length xs) ls j 0 h

  pub first_first : (ys : List ℕ) → First xs ys → First ls ys
  first_first ys f = (
    omega arith,
    f.1 ∙ ap (take (length ys)) first.1 ∙ sym (take-append-le (length ys) (take (length xs) ls) (drop (length xs) ls)
        (omega (arith, length-take-le (length xs) ls first.0))) ∙ ap (take (length ys)) (take-append-drop (length xs) ls),
  )

pub first_front : (xs front block : List ℕ) → xs ≡ front ++ block → First xs front
first_front xs front block e = rw e (simp length-append (omega arith), sym (take-append_seam front block))

-- the loan that the first of the loans end with
pub first_end : (ls xs front : List ℕ) (w : ℕ) → First ls xs → xs ≡ front ++ (w ∷ []) → length front + 1 ≡ length xs
    → w ≡ get_or ls (length front) 0
first_end ls xs front w f e n =
    sym (get_or-append_seam front w [] 0) ∙ ap (λ (l : List ℕ). get_or l (length front) 0) (sym e)
    ∙ first_at_place ls xs f (length front) (omega arith)

-- without some at the end, which are all to others
pub left_less : (ls : List ℕ) (q : ℕ) (xs front block : List ℕ) → LeftTo ls q xs → xs ≡ front ++ block → all (is_to_other q) block ≡ true
    → LeftTo ls q front
left_less ls q xs front block left e others =
    let n : length xs ≡ length front + length block = ap length e ∙ length-append front block in (
      first_first ls xs left.0 front (first_front xs front block e),
      λ j l k.
          by_cases (dec_lt j (length xs))
          (λ d. let t = below_elim (length block) _ (sym (all-below (is_to_other q) block) ∙ others) (j - length front) (omega arith) in
          let p = sym (first_at_place ls xs left.0 j d) ∙ ap (λ (x : List ℕ). get_or x j 0) e ∙ get_or-append_right front block j 0 l in
          ap (is_to_other q) p ∙ t)
          (λ d. left.1 j (omega arith) k),
    )

-- where ys are left of the first of the loans: the front of ys, the loan they end with, and the others behind it
pub left_end : (ls : List ℕ) (q : ℕ) (xs ys front : List ℕ) (w : ℕ) → First ls xs → LeftTo xs q ys → IsLastAndRest ys w front
    → First ls front × (w ≡ get_or ls (length front) 0) × (length front + 1 ≤ length xs) × ToOthers ls q (length front + 1) (length xs)
left_end ls q xs ys front w f left e =
    let first = first_first ls xs f ys left.0 in (
      first_first ls ys first front (first_front ys front (w ∷ []) e.0),
      first_end ls ys front w first e.0 e.1,
      omega (arith, e.1),
      λ j l k. ap (is_to_other q) (sym (first_at_place ls xs f j k)) ∙ left.1 j (omega arith) k,
    )

-- where nothing is left of them, all are to others
pub left_none : (ls : List ℕ) (q : ℕ) (xs ys : List ℕ) → First ls xs → LeftTo xs q ys → length ys ≡ 0 → ToOthers ls q 0 (length xs)
left_none ls q xs ys f left e j l k = ap (is_to_other q) (sym (first_at_place ls xs f j k)) ∙ left.1 j (omega arith) k

-- ---- laying out: one loan more, and loans to others
module _ (ls : List ℕ) (q p : ℕ) where
  -- with a row that has what is lent from behind place i on, and the loan u there laid out too
  pub lent-step : (row : List ℕ) (i u : ℕ) → u ≡ get_or ls i 0 → length row ≡ 64 → p < 64
      → max (get_or (set row (lender u) (max (get_or row (lender u) 0) (cond (eqb (borrower u) q) (loan_depth u + 1) 0))) p 0)
      (most (lending ls q p) i)
      ≡ max (get_or row p 0) (most (lending ls q p) (i + 1))
  lent-step row i u here long hp =
      let x : ℕ = cond (eqb (borrower u) q) (loan_depth u + 1) 0 in
      let m = most_more (lending ls q p) i in
      by_cases (ℕ_discrete (lender u) p)
      (λ d. let a : lending ls q p i ≡ x = rw (sym here) (rw (eq-eqb _ _ d)) in
      let s : get_or (set row (lender u) (max (get_or row (lender u) 0) x)) p 0 ≡ max (get_or row p 0) x =
      (λ j. get_or (set row (d j) (max (get_or row (d j) 0) x)) p 0) ∙ get_or-set_same row p _ 0 (omega arith) in
      omega arith)
      (λ d. let a : lending ls q p i ≡ 0 = rw (sym here) (rw (ne_eqb _ _ d)) in
      let s : get_or (set row (lender u) (max (get_or row (lender u) 0) x)) p 0 ≡ get_or row p 0 = get_or-set_other row (lender u) p _ 0 (λ z. d (sym z)) in
      omega arith)

  pub lent_skip : (r i : ℕ) → r ≤ i → ToOthers ls q r i → most (lending ls q p) i ≡ most (lending ls q p) r
  lent_skip r i h others =
      (unchanged (lending ls q p) r i (λ k l d. omega (arith, lending_other ls q p k (others k l d))) h).0

-- loans to others are no lenders to q, unless 0 is asked for
pub lender-passed : (ls round : List ℕ) (q v i n : ℕ) → i ≤ n → ToOthers ls q i n → (v ≡ 0 → i ≡ n)
    → lender_to ls round q v n ≡ lender_to ls round q v i
lender-passed ls round q v i n h others none =
    by_cases (ℕ_discrete v 0) (λ z. ap (lender_to ls round q v) (sym (none z)))
    (λ ne. let e : i + (n - i) ≡ n = omega arith in
    ap (lender_to ls round q v) (sym e)
    ∙ lender_skip ls round q v i (n - i) (λ j l d a. ne (sym a ∙ arrive_other _ _ q (others j l (omega arith)))))

-- ---- what is passed on
module _ (ls round : List ℕ) (q : ℕ) (inside : q < 64) where
  abbrev row : List ℕ
  row = lent_to ls q

  abbrev passing : ℕ → ℕ
  passing p = min (get_or round p 0 - 1) (get_or row p 0)

  row_at : (p : ℕ) → p < 64 → get_or row p 0 ≡ most (lending ls q p) (length ls)
  unfolding lent_to
  row_at p h = get_d_tabulate 64 (λ (p : ℕ). most (lending ls q p) (length ls)) p 0 h

  no_more : (p : ℕ) → p < 64 → passing p ≤ most (arriving ls round q) (length ls)
  no_more p h =
      by_cases (dec_lt 0 (most (lending ls q p) (length ls)))
      (λ l. let s = first-most (lending ls q p) (length ls) l in
      let i : ℕ = first_at (lending ls q p) (length ls) in
      let a = lending-inv ls q p i (omega (arith, s.1)) in
      let b = arrive_here (get_or round (lender (get_or ls i 0)) 0) (get_or ls i 0) q a.1 in
      let c : get_or round (lender (get_or ls i 0)) 0 ≡ get_or round p 0 = ap (λ (n : ℕ). get_or round n 0) a.0 in
      omega (arith, row_at p h, s.1, a.2, b, c, most_above (arriving ls round q) (length ls) i s.0))
      (λ l. omega (arith, row_at p h))

  no_less : (i : ℕ) → i < length ls → arriving ls round q i ≤ most passing 64
  no_less i h =
      let u : ℕ = get_or ls i 0 in
      let p : ℕ = lender u in
      by_cases (ℕ_discrete (borrower u) q)
      (λ e. let a = lending_here ls q p i refl e in
      let b = arrive_here (get_or round p 0) u q e in
      omega (arith, a, b, row_at p (omega arith), most_above (lending ls q p) (length ls) i h, most_above passing 64 p (omega arith)))
      (λ e. omega (arith, arrive_else (get_or round p 0) u q e))

  pub passed-next : passed_on (lent_to ls q) round ≡ get_or (next_round ls round) q 0
  unfolding passed_on next_round
  passed-next =
      let a = most_le passing 64 (most (arriving ls round q) (length ls)) no_more in
      let b = most_le (arriving ls round q) (length ls) (most passing 64) no_less in
      omega (arith, a, b, get_d_tabulate 64 (λ (q : ℕ). most (arriving ls round q) (length ls)) q 0 inside)

-- a person's entry of the round after round k
pub next_entry : (first ls row round : List ℕ) (k q e : ℕ) → q < 64 → row ≡ lent_to ls q → round ≡ round_at first ls k → e ≡ passed_on row round
    → e ≡ get_or (round_at first ls (k + 1)) q 0
next_entry first ls lent round k q e h r s p =
    p ∙ (λ j. passed_on (r j) (s j)) ∙ passed-next ls (round_at first ls k) q h
    ∙ ap (λ (x : List ℕ). get_or x q 0) (sym (round_more first ls k))
