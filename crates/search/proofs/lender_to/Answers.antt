-- No loan behind the rest passes v on to q: those that were passed over are to others (`lender-passed`), the one looked at passes another
-- number on (`lender_else`). A loan that does is the last one (`lender_here`); with none left the lender is item 0.
use native.Mathlib.Omega.{arith}
use mathlib.Core.Path.{sym, ap, ◌∙◌}
use Prim.Native.Nat.{ℕ, ◌+◌}
use lib.ListN.{length, get_or}
use Rattle.delegation.specs.Loans.{lender}
use Rattle.delegation.specs.Search.{arrive, lender_to}
use Rattle.search.proofs.Trace.{lender_here, lender_else}
use Rattle.search.proofs.Lending.{lender-passed, left_end, left_none}
use Rattle.search.proofs.lender_to.Goals as goal

pub returns-then-arrive_of-v : goal.returns-then-arrive_of-v
returns-then-arrive_of-v c =
    let ls = c.args.ls.now in
    let n = length c.in-Some.front.now in
    let left = c.last_passing.ensures in
    let e = left_end ls c.args.q.0 c.loop-w.rest.now c.last_passing.result.now c.in-Some.front.now c.in-Some.w.now
    c.loop-w.invariant.0 left.0 c.in-Some.ensures.cases in
    let got = c.arrive_of.ensures ∙ ap (λ (u : ℕ). arrive (get_or c.args.round.now (lender u) 0) u c.args.q.0) e.1 in
    c.lender.ensures ∙ ap lender e.1
    ∙ sym (c.loop-w.invariant.1
    ∙ lender-passed ls c.args.round.now c.args.q.0 c.args.v (n + 1) (length c.loop-w.rest.now) e.2 e.3
    (λ z. c.in-Some.ensures.cases.1 ∙ ap length (left.1 z))
    ∙ lender_here ls c.args.round.now c.args.q.0 c.args.v n c.arrive_of.result got c.if-arrive_of-v.true)

pub loop-w-preserved : goal.loop-w-preserved
loop-w-preserved c =
    let ls = c.args.ls.now in
    let n = length c.in-Some.front.now in
    let left = c.last_passing.ensures in
    let e = left_end ls c.args.q.0 c.loop-w.rest.now c.last_passing.result.now c.in-Some.front.now c.in-Some.w.now
    c.loop-w.invariant.0 left.0 c.in-Some.ensures.cases in
    let got = c.arrive_of.ensures ∙ ap (λ (u : ℕ). arrive (get_or c.args.round.now (lender u) 0) u c.args.q.0) e.1 in (
      e.0,
      c.loop-w.invariant.1
          ∙ lender-passed ls c.args.round.now c.args.q.0 c.args.v (n + 1) (length c.loop-w.rest.now) e.2 e.3
          (λ z. c.in-Some.ensures.cases.1 ∙ ap length (left.1 z))
          ∙ lender_else ls c.args.round.now c.args.q.0 c.args.v n c.arrive_of.result got (λ z. omega arith),
    )

pub returns : goal.returns
unfolding lender_to
returns c =
    let left = c.last_passing.ensures in
    let e = left_none c.args.ls.now c.args.q.0 c.loop-w.rest.now c.last_passing.result.now c.loop-w.invariant.0 left.0
    c.in_default.ensures.cases in
    c.root.ensures ∙ sym (c.loop-w.invariant.1
    ∙ lender-passed c.args.ls.now c.args.round.now c.args.q.0 c.args.v 0 (length c.loop-w.rest.now) (omega arith) e
    (λ z. sym c.in_default.ensures.cases ∙ ap length (left.1 z)))
