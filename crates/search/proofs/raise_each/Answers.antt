-- After i turns each person's entry is raised to the greatest that the first i loans pass on, since a turn raises its borrower's entry
-- and no other (`raise_more`); at the end that is all loans.
use native.Mathlib.Omega.{arith}
use mathlib.Core.Path.{refl, ap, ◌∙◌}
use Prim.Native.Nat.{ℕ}
use lib.ListN.{length, get_or, length-set}
use Rattle.bits.specs.Sets.{most}
use Rattle.search.proofs.Rounds.{raise_more}
use Rattle.search.proofs.raise_each.Goals as goal

pub loop-w-init : goal.loop-w-init
unfolding most
loop-w-init c = (refl, λ q h. omega arith)

pub loop-w-preserved : goal.loop-w-preserved
loop-w-preserved c =
    let p = c.number-p.ensures ∙ c.lender.ensures in (
      ap length c.raise.ensures ∙ simp length-set c.loop-w.invariant.0,
      rw c.raise.ensures (raise_more c.args.ls.now c.args.round.now c.loop-w.next (λ (q : ℕ). get_or c.args.next.now q 0) c.loop-w.w-index
          c.number-p.result p (c.loop-w.invariant.0 ∙ c.told-next) c.loop-w.invariant.1),
    )
