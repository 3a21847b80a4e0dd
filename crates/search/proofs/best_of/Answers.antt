-- After k turns it is the person's greatest entry of the first k rounds, and the first round that has it (`best_more`); at the end k is
-- 8. The first such round of eight is below 8 (`first_le`).
use native.Mathlib.Omega.{arith}
use mathlib.Core.Path.{◌≡◌, refl, ◌∙◌}
use Prim.Native.Nat.{ℕ}
use Rattle.bits.specs.Sets.{most, first_at}
use Rattle.delegation.specs.Search.{column}
use Rattle.bits.proofs.Indexed.{first_le}
use Rattle.search.proofs.Rounds.{best_more}
use Rattle.search.proofs.best_of.Goals as goal

pub loop-k-init : goal.loop-k-init
unfolding most first_at
loop-k-init c = (refl, refl)

pub loop-k-preserved : goal.loop-k-preserved
loop-k-preserved c =
    let m = best_more (column c.args.rounds.now
    c.number-place.result) c.loop-k.k c.loop-k.e.value c.loop-k.e.at c.better-e.result.value c.better-e.result.at c.loop-k.invariant.0
    c.loop-k.invariant.1 c.better-e.ensures.0 c.better-e.ensures.1 in
    (m.0, m.1)

pub returns : goal.returns
returns c =
    let f : ℕ → ℕ → ℕ = column c.args.rounds.now in
    let e : c.loop-k.k ≡ 8 = omega arith in
    let first : c.loop-k.e.at ≡ first_at (f c.args.who.0) 8 = c.loop-k.invariant.1 ∙ (λ j. first_at (f (c.number-place.ensures j)) (e j)) in
    (c.loop-k.invariant.0 ∙ (λ j. most (f (c.number-place.ensures j)) (e j)), first, omega (arith, first_le (f c.args.who.0) 7))
