-- Rounds cut short: a loan costs one, so every entry after a round is below the greatest of that round.
use mathlib.Core.Path.{◌≡◌, refl, sym, ap, ap₂, ◌∙◌, subst}
use mathlib.Core.Bool.{cond}
use mathlib.Core.List.{List, []}
use mathlib.Core.Logic.{⊎_elim}
use Prim.Native.Nat.{ℕ, zero, suc, ◌+◌, ◌-◌, ◌≤◌, ◌<◌, max}
use native.Mathlib.Omega.{arith}
use native.Mathlib.Nat.{add-zero, add-suc}
use native.Mathlib.Numerals.{add-one}
use lib.Dec.{ltb}
use borrow.Author.Tests.{le-ltb}
use lib.ListN.{length, get_or}
use Rattle.bits.specs.Sets.{tabulate, most, first_at}
use Rattle.delegation.specs.Loans.{lender}
use Rattle.delegation.specs.Search.{arriving, next_round, round_at, column}
use Rattle.bits.proofs.Indexed.{get_d_tabulate, most_above, first_le, split}
use Rattle.search.specs.Settled.{Settled}
use Rattle.search.proofs.Rounds.{most_le, arrive_le}

-- ---- the greatest of some values, and its first place
module _ (f g : ℕ → ℕ) where
  pub most_ext : (n : ℕ) → ((k : ℕ) → k < n → f k ≡ g k) → most f n ≡ most g n
  unfolding most
  most_ext zero e = refl
  most_ext (suc n) e = ap₂ max (most_ext n (λ k h. e k (omega arith))) (e n (omega arith))

  first_ext : (n : ℕ) → ((k : ℕ) → k < n → f k ≡ g k) → first_at f n ≡ first_at g n
  unfolding first_at
  first_ext zero e = refl
  first_ext (suc n) e =
      let m = most_ext n (λ k h. e k (omega arith)) in
      let r = first_ext n (λ k h. e k (omega arith)) in
      let v = e n (omega arith) in
      λ j. cond (ltb (m j) (v j)) n (r j)

-- values no greater than the greatest of the first n change nothing
module _ (f : ℕ → ℕ) (n m : ℕ) (low : (k : ℕ) → n ≤ k → k < m → f k ≤ most f n) where
  and_more : (d : ℕ) → n + d ≤ m → (most f (n + d) ≡ most f n) × (first_at f (n + d) ≡ first_at f n)
  unfolding most first_at
  and_more zero h = rw add-zero (refl, refl)
  and_more (suc d) h =
      let r = and_more d (omega arith) in
      let l = low (n + d) (omega arith) (omega arith) in
      rw add-suc (omega arith, rw (le-ltb (most f (n + d)) (f (n + d)) (omega arith)) r.1)

  pub unchanged : n ≤ m → (most f m ≡ most f n) × (first_at f m ≡ first_at f n)
  unchanged h =
      let e : n + (m - n) ≡ m = omega arith in
      let r = and_more (m - n) (omega arith) in
      (ap (most f) (sym e) ∙ r.0, ap (first_at f) (sym e) ∙ r.1)

-- ---- rounds
pub next_le : (ls round : List ℕ) (b : ℕ) → ((p : ℕ) → p < 64 → get_or round p 0 ≤ b) → (q : ℕ) → q < 64 → get_or (next_round ls round) q 0 ≤ b - 1
unfolding next_round
next_le ls round b all q h =
    let m = most_le (arriving ls round q) (length ls) (b - 1)
    (λ i l. let w : ℕ = get_or ls i 0 in let r = all (lender w) (omega arith) in omega (arith, arrive_le (get_or round (lender w) 0) w q)) in
    omega (arith, get_d_tabulate 64 (λ (q : ℕ). most (arriving ls round q) (length ls)) q 0 h)

module _ (first ls : List ℕ) (k : ℕ) where
  later_le : (b : ℕ) → ((p : ℕ) → p < 64 → get_or (round_at first ls k) p 0 ≤ b) → (j : ℕ) → k < j → (q : ℕ) → q < 64
      → get_or (round_at first ls j) q 0 ≤ b - 1
  unfolding round_at
  later_le b all zero h q l = absurd (omega arith)
  later_le b all (suc j) h q l =
      next_le ls (round_at first ls j) b
      (λ p d. ⊎_elim (λ (e : k ≡ j). subst (λ (n : ℕ). get_or (round_at first ls n) p 0 ≤ b) e (all p d))
      (λ (o : k < j). let r = later_le b all j o p d in omega arith) (split h)) q l

  -- rounds before k are made, round k has the person's entry, round 0 stands in place of the later ones, and top is the person's greatest
  -- entry so far
  module _ (rounds : List (List ℕ)) (who top : ℕ) (in_range : who < 64) (in-time : k ≤ 7)
      (made : (j : ℕ) → j < k → get_or rounds j [] ≡ round_at first ls j) (here : column rounds who k ≡ get_or (round_at first ls k) who 0)
      (rest : (j : ℕ) → k < j → j < 8 → get_or rounds j [] ≡ first)
      (top-is : top ≡ most (λ (j : ℕ). get_or (round_at first ls j) who 0) (k + 1)) where
    abbrev whole : List (List ℕ)
    whole = tabulate 8 (round_at first ls)

    abbrev entry : ℕ → ℕ
    entry j = get_or (round_at first ls j) who 0

    whole-at : (j : ℕ) → j < 8 → get_or whole j [] ≡ round_at first ls j
    whole-at j h = get_d_tabulate 8 (round_at first ls) j [] h

    entry_at : (j : ℕ) → j < 8 → column whole who j ≡ entry j
    entry_at j h = ap (λ (x : List ℕ). get_or x who 0) (whole-at j h)

    even : (j : ℕ) → j < k + 1 → column rounds who j ≡ column whole who j
    even j h =
        ⊎_elim (λ (e : j ≡ k). ap (column rounds who) e ∙ here ∙ sym (entry_at k (omega arith)) ∙ ap (column whole who) (sym e))
        (λ (l : j < k). ap (λ (x : List ℕ). get_or x who 0) (made j l ∙ sym (whole-at j (omega arith)))) (split (subst (λ (n : ℕ). j < n) (add-one k) h))

    -- where no later entry is greater
    pub settled : ((j : ℕ) → k < j → j < 8 → get_or (round_at first ls j) who 0 ≤ top) → Settled (tabulate 8 (round_at first ls)) rounds who
    unfolding round_at
    settled low =
        let so_far : most (column whole who) (k + 1) ≡ top = most_ext (column whole who) entry (k + 1) (λ j h. entry_at j (omega arith))
        ∙ sym top-is in
        let m = most_ext (column rounds who) (column whole who) (k + 1) even in
        let w = unchanged (column whole who) (k + 1) 8 (λ j h l. omega (arith, entry_at j l, low j (omega arith) l)) (omega arith) in
        let r = unchanged (column rounds who) (k + 1) 8
        (λ j h l. omega (arith, ap (λ (x : List ℕ). get_or x who 0) (rest j (omega arith) l), most_above entry (k + 1) 0 (omega arith)))
        (omega arith) in
        let bound : first_at (column whole who) (k + 1) ≤ k = rw add-one (first_le (column whole who) k) in
        record {
          value = r.0 ∙ m ∙ sym w.0;
          at = r.1 ∙ first_ext (column rounds who) (column whole who) (k + 1) even ∙ sym w.1;
          same = λ j h. made j (omega (arith, w.1)) ∙ sym (whole-at j (omega (arith, w.1)));
        }

    -- where a loan leaves no more than top of every entry of round k
    pub settled_early : (b : ℕ) → ((p : ℕ) → p < 64 → get_or (round_at first ls k) p 0 ≤ b) → b - 1 ≤ top
        → Settled (tabulate 8 (round_at first ls)) rounds who
    settled_early b all h = settled (λ j l d. omega (arith, later_le b all j l who in_range))

    pub settled_last : k ≡ 7 → Settled (tabulate 8 (round_at first ls)) rounds who
    settled_last e = settled (λ j l d. absurd (omega arith))
