-- Rounds 0 to k are made and `top` is the person's greatest entry in them. A loan costs one, so once the greatest entry of round k
-- less one is not above `top`, no later round matters (`settled_early`); after round 7 there is none (`settled_last`). What the loans to
-- the person pass on is the person's entry of the next round (`next_entry`), all entries of which are below the greatest of round k
-- (`next_le`): so the same holds of round k + 1 where the greatest of round k less two is not above `top`.
use borrow.Author.Rules.{rules}
use mathlib.Core.List.{List, []}
use Prim.Native.Nat.{max, ℕ, ◌+◌, ◌-◌}
use lib.ListN.{get_or-replicate, length, get_or, set, length-set}
use lib.Seq.{get_or-set_same, get_or-set_other}
use Rattle.bits.specs.Sets.{most, tabulate}
use Rattle.bits.proofs.Indexed.{most_above}
use Rattle.delegation.specs.Search.{next_round, round_at}
use Rattle.search.proofs.Rounds.{fill_more, most_more, round_more}
use Rattle.search.proofs.Settling.{next_le, settled_early, settled_last}
use Rattle.search.proofs.Lending.{next_entry}
use native.Mathlib.Omega.{arith}
use mathlib.Core.Path.{◌≡◌, refl, sym, ap, subst, ◌∙◌}
use Rattle.search.specs.Lending.{lent_to}
use Rattle.search.specs.Settled.{Settled}
use Rattle.search.proofs.rounds_of.Goals as goal

pub loop-k-init : goal.loop-k-init
unfolding round_at most
loop-k-init c =
    let f : List ℕ = c.args.first in (
      refl,
      λ j h. let e : j ≡ 0 = omega arith in rw e refl,
      λ j h l. get_or-replicate 8 j f [] l,
      omega arith,
    )

pub returns-then-left-top : goal.returns-then-left-top
returns-then-left-top c =
    let round : List ℕ = round_at c.args.first c.args.ls.now c.loop-k.k in
    let g = c.greatest.ensures ∙ (λ j. most (λ (p : ℕ). get_or (c.loop-k.invariant.1 c.loop-k.k (omega arith) j) p 0) 64) in
    subst (λ (p : ℕ). Settled (tabulate 8 (round_at c.args.first c.args.ls.now)) c.loop-k.rounds p) c.number-place.ensures
    (settled_early c.args.first c.args.ls.now c.loop-k.k c.loop-k.rounds c.number-place.result c.loop-k.top (omega arith) (omega arith)
    (λ j h. c.loop-k.invariant.1 j (omega arith)) (ap (λ (x : List ℕ). get_or x c.number-place.result 0) (c.loop-k.invariant.1 c.loop-k.k (omega arith))) c.loop-k.invariant.2 c.loop-k.invariant.3
    (most (λ (p : ℕ). get_or round p 0) 64) (λ p h. most_above (λ (p : ℕ). get_or round p 0) 64 p h)
    (omega (arith, g, c.saturating_sub-left.ensures, c.if-left-top.true)))

pub returns-then-saturating_sub-top : goal.returns-then-saturating_sub-top
returns-then-saturating_sub-top c =
    let k = c.loop-k.k + 1 in
    let round : List ℕ = round_at c.args.first c.args.ls.now c.loop-k.k in
    let last : List ℕ = set (get_or c.loop-k.rounds k []) c.number-place.result c.passed_on-entry.result in
    let e = next_entry c.args.first c.args.ls.now c.lent_to-row.result (get_or c.loop-k.rounds c.loop-k.k []) c.loop-k.k c.number-place.result c.passed_on-entry.result (omega arith)
    (c.lent_to-row.ensures ∙ ap (lent_to c.args.ls.now) (sym c.number-place.ensures)) (c.loop-k.invariant.1 c.loop-k.k (omega arith)) c.passed_on-entry.ensures in
    let long : length (get_or c.loop-k.rounds k []) ≡ 64 = ap (λ (x : List ℕ). length x) (c.loop-k.invariant.2 k (omega arith) (omega arith)) ∙ search rules in
    let g = c.greatest.ensures ∙ (λ j. most (λ (p : ℕ). get_or (c.loop-k.invariant.1 c.loop-k.k (omega arith) j) p 0) 64) in
    let b = next_le c.args.ls.now round (most (λ (p : ℕ). get_or round p 0) 64) (λ p h. most_above (λ (p : ℕ). get_or round p 0) 64 p h) in
    subst (λ (p : ℕ). Settled (tabulate 8 (round_at c.args.first c.args.ls.now)) (set c.loop-k.rounds k last) p) c.number-place.ensures
    (settled_early c.args.first c.args.ls.now k (set c.loop-k.rounds k last) c.number-place.result c.max-top.result (omega arith) (omega arith)
    (λ j h. get_or-set_other c.loop-k.rounds k j last [] (omega arith) ∙ c.loop-k.invariant.1 j (omega arith))
    (ap (λ (x : List ℕ). get_or x c.number-place.result 0) (get_or-set_same c.loop-k.rounds k last [] (omega arith))
    ∙ get_or-set_same (get_or c.loop-k.rounds k []) c.number-place.result c.passed_on-entry.result 0 (omega arith) ∙ e)
    (λ j h d. get_or-set_other c.loop-k.rounds k j last [] (omega arith) ∙ c.loop-k.invariant.2 j (omega arith) d)
    (c.max-top.ensures ∙ (λ j. max (c.loop-k.invariant.3 j) (e j)) ∙ sym (most_more _ k))
    (most (λ (p : ℕ). get_or round p 0) 64 - 1) (λ p h. rw (round_more c.args.first c.args.ls.now c.loop-k.k) (b p h))
    (omega (arith, g, c.saturating_sub-left.ensures, c.saturating_sub.ensures, c.if-saturating_sub-top.true)))

pub loop-k-preserved : goal.loop-k-preserved
loop-k-preserved c =
    let e : c.next_round.result ≡ round_at c.args.first c.args.ls.now (c.loop-k.k + 1) =
    c.next_round.ensures ∙ ap (next_round c.args.ls.now) (c.loop-k.invariant.1 c.loop-k.k (omega arith)) ∙ sym (round_more _ _ c.loop-k.k) in
    let v = next_entry c.args.first c.args.ls.now c.lent_to-row.result (get_or c.loop-k.rounds c.loop-k.k []) c.loop-k.k c.number-place.result c.passed_on-entry.result (omega arith)
    (c.lent_to-row.ensures ∙ ap (lent_to c.args.ls.now) (sym c.number-place.ensures)) (c.loop-k.invariant.1 c.loop-k.k (omega arith)) c.passed_on-entry.ensures in (
      simp length-set c.loop-k.invariant.0,
      fill_more (round_at c.args.first c.args.ls.now) [] c.loop-k.rounds (c.loop-k.k + 1) c.next_round.result (omega arith) e c.loop-k.invariant.1,
      λ j h d. get_or-set_other c.loop-k.rounds (c.loop-k.k + 1) j c.next_round.result [] (omega arith) ∙ c.loop-k.invariant.2 j (omega arith) d,
      c.max-top.ensures ∙ (λ j. max (c.loop-k.invariant.3 j) (v j)) ∙ sym (most_more _ (c.loop-k.k + 1)),
    )

pub returns : goal.returns
returns c =
    subst (λ (p : ℕ). Settled (tabulate 8 (round_at c.args.first c.args.ls.now)) c.loop-k.rounds p) c.number-place.ensures
    (settled_last c.args.first c.args.ls.now c.loop-k.k c.loop-k.rounds c.number-place.result c.loop-k.top (omega arith) (omega arith)
    (λ j h. c.loop-k.invariant.1 j (omega arith)) (ap (λ (x : List ℕ). get_or x c.number-place.result 0) (c.loop-k.invariant.1 c.loop-k.k (omega arith))) c.loop-k.invariant.2 c.loop-k.invariant.3
    (omega arith))
