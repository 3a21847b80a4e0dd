-- From what the parts of the search say to what the search says.
use mathlib.Core.Path.{◌≡◌, sym, ap, ◌∙◌, subst}
use mathlib.Core.List.{List, ◌++◌}
use Prim.Native.Nat.{ℕ, ◌-◌, ◌≤◌}
use native.Mathlib.Omega.{arith}
use lib.ListN.{replicate}
use Rattle.bits.specs.Sets.{tabulate, most, first_at}
use Rattle.delegation.specs.Search.{grant_round, round_at, column, traced, rounds_of, height_of, length_of, best_of, best_chain}
use Rattle.bits.proofs.Indexed.{first-most}
use Rattle.delegation.proofs.Search.{height_le, best-no, best-yes}
use Rattle.search.specs.Entry.{entry_found}
use Rattle.search.specs.Settled.{Settled}
use Rattle.search.proofs.Trace.{traced_ext}

-- what the code has before it answers
pub record Searched (bytes ls : List ℕ) (who : ℕ) (rounds : List (List ℕ)) (value at : ℕ) : Type 0 where
  pub rounds_are : Settled (rounds_of bytes ls) rounds who
  pub height_is : value ≡ height_of bytes ls who
  pub height_in : value ≤ 8
  pub length_is : at ≡ length_of bytes ls who

pub searched : (bytes ls : List ℕ) (who : ℕ) (first : List ℕ) (rounds : List (List ℕ)) (value at : ℕ) → who ≤ 63
    → first ≡ grant_round bytes → Settled (tabulate 8 (round_at first ls)) rounds who
    → value ≡ most (column rounds who) 8 → at ≡ first_at (column rounds who) 8 → Searched bytes ls who rounds value at
unfolding rounds_of height_of length_of
searched bytes ls who first rounds value at h f r v a =
    let k : Settled (rounds_of bytes ls) rounds who = subst (λ (x : List (List ℕ)). Settled x rounds who)
    (λ j. tabulate 8 (round_at (f j) ls)) r in
    let u : value ≡ height_of bytes ls who = v ∙ k.value in
    record { rounds_are = k; height_is = u; height_in = omega (arith, height_le bytes ls who h); length_is = a ∙ k.at }

module _ {bytes ls : List ℕ} {who : ℕ} {rounds : List (List ℕ)} {value at : ℕ} (s : Searched bytes ls who rounds value at) where
  pub found_is : entry_found value at ≡ best_of bytes ls who
  unfolding best_of
  found_is = λ j. entry_found (s.height_is j) (s.length_is j)

  pub chain-no : value ≡ 0 → replicate 8 255 ≡ best_chain bytes ls who
  chain-no e = sym (best-no bytes ls who (sym s.height_is ∙ e)).1

  -- the person's entry in the round that has the greatest first
  last_entry : (value ≡ 0 → ⊥) → column rounds who at ≡ column (rounds_of bytes ls) who at
  unfolding height_of length_of
  last_entry ne =
      let v = s.rounds_are in
      let w : ℕ → ℕ = column (rounds_of bytes ls) who in
      let r : ℕ → ℕ = column rounds who in
      let a = first-most w 8 (omega (arith, s.height_is)) in
      let b = first-most r 8 (omega (arith, s.height_is, v.value)) in
      ap r (s.length_is ∙ sym v.at) ∙ b.1 ∙ v.value ∙ sym a.1 ∙ ap w (sym s.length_is)

  pub chain-yes : (value ≡ 0 → ⊥) → traced rounds ls at who ++ replicate (7 - at) 255 ≡ best_chain bytes ls who
  unfolding length_of
  chain-yes ne =
      let n = s.length_is in
      let same = traced_ext rounds (rounds_of bytes ls) ls at who (λ j h. s.rounds_are.same j (omega arith)) (last_entry ne) in
      ap (λ (l : List ℕ). l ++ replicate (7 - at) 255) same
      ∙ (λ j. traced (rounds_of bytes ls) ls (n j) who ++ replicate (7 - n j) 255)
      ∙ sym (best-yes bytes ls who (λ e. ne (s.height_is ∙ e))).1
