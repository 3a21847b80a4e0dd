-- For each lender the row has what its loans to q behind the rest have at most; with those of the rest that is what all have
-- (`lent-step` for the loan that is laid out, `lent_skip` for those to others).
use native.Mathlib.Omega.{arith}
use mathlib.Core.Path.{refl, sym, ap, ◌∙◌}
use mathlib.Core.List.{List}
use Prim.Native.Nat.{ℕ, ◌+◌}
use lib.ListN.{length, get_or, length-set, get_or-replicate}
use lib.Seq.{take_all}
use Rattle.bits.specs.Sets.{most}
use Rattle.bits.proofs.Indexed.{tabulate_ext}
use Rattle.search.specs.Lending.{lent_to}
use Rattle.search.proofs.Lending.{lent-step, lent_skip, left_end, left_none}
use Rattle.search.proofs.lent_to.Goals as goal

pub loop-w-init : goal.loop-w-init
loop-w-init c = (
  (omega arith, sym (take_all (length c.args.ls.now) c.args.ls.now (omega arith))),
  refl,
  λ p h. omega (arith, get_or-replicate {A = ℕ} 64 p 0 0 h),
)

pub loop-w-preserved : goal.loop-w-preserved
loop-w-preserved c =
    let ls = c.args.ls.now in
    let n = length c.in-Some.front.now in
    let e = left_end ls c.args.q.0 c.loop-w.rest.now c.last_to.result.now c.in-Some.front.now c.in-Some.w.now c.loop-w.invariant.0
    c.last_to.ensures c.in-Some.ensures.cases in (
      e.0,
      ap length c.lend.ensures ∙ simp length-set c.loop-w.invariant.1,
      λ p h. omega (
        arith,
        ap (λ (x : List ℕ). get_or x p 0) c.lend.ensures,
        c.loop-w.invariant.2 p h,
        lent-step ls c.args.q.0 p c.loop-w.row n c.in-Some.w.now e.1 c.loop-w.invariant.1 h,
        lent_skip ls c.args.q.0 p (n + 1) (length c.loop-w.rest.now) e.2 e.3,
      ),
    )

pub returns : goal.returns
unfolding lent_to most
returns c =
    let e = left_none c.args.ls.now c.args.q.0 c.loop-w.rest.now c.last_to.result.now c.loop-w.invariant.0 c.last_to.ensures
    c.in_default.ensures.cases in
    tabulate_ext 64 _ 0 c.loop-w.row c.loop-w.invariant.1
    (λ p h. omega (arith, c.loop-w.invariant.2 p h, lent_skip c.args.ls.now c.args.q.0 p 0 (length c.loop-w.rest.now) (omega arith) e))
