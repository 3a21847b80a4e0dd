-- The chain wanted is the one to q with k loans, and then the bytes written after place k: a turn writes q at place k and goes on with
-- its lender (`traced-step`). With no loan left q is the first person (`traced-end`); 255 stands after the last (`padding`).
use borrow.Author.Rules.{rules}
use mathlib.Core.List.{[], ◌++◌}
use native.Mathlib.Omega.{arith}
use mathlib.Core.Path.{◌≡◌, sym, ap, ◌∙◌}
use Prim.Native.Nat.{suc, ◌+◌, ◌-◌}
use lib.ListN.{length, get_or, drop, set, length-set}
use Rattle.delegation.specs.Search.{lender_to, traced}
use Rattle.search.proofs.Trace.{lender_lt, traced-step, traced-end}
use Rattle.search.proofs.write_chain.Goals as goal

pub loop-k-preserved : goal.loop-k-preserved
loop-k-preserved c =
    let e : c.loop-k.k - 1 + 1 ≡ c.loop-k.k = omega arith in
    let p = sym c.number-place.ensures in
    let f = (λ j. lender_to c.args.ls.now (get_or c.args.rounds.now (c.loop-k.k - 1) []) c.loop-k.q.0 (get_or (get_or c.args.rounds.now c.loop-k.k []) (p j) 0)
    (length c.args.ls.now)) ∙ sym (rw e at c.lender_to-q.ensures) in
    rw e (
      search rules,
      rw c.lender_to-q.ensures (lender_lt _ _ _ _ _),
      simp length-set c.loop-k.invariant.2,
      c.loop-k.invariant.3 ∙ traced-step c.args.rounds.now c.args.ls.now c.loop-k.chain c.loop-k.k c.loop-k.q.0 (omega arith) (omega arith)
          ∙ (λ j. traced c.args.rounds.now c.args.ls.now (c.loop-k.k - 1) (f j) ++ drop (suc (c.loop-k.k - 1)) (set c.loop-k.chain c.loop-k.k (p j))),
    )

pub returns : goal.returns
returns c =
    let e : c.loop-k.k ≡ 0 = omega arith in
    sym (c.loop-k.invariant.3 ∙ (λ j. traced c.args.rounds.now c.args.ls.now (e j) c.loop-k.q.0 ++ drop (suc (e j)) c.loop-k.chain)
    ∙ traced-end c.args.rounds.now c.args.ls.now c.loop-k.chain c.loop-k.q.0 (omega arith) ∙ ap (set c.loop-k.chain 0) (sym c.number.ensures))
