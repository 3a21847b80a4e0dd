-- Behind what was there before stand the first i loans (`pick_more`, of a test that all pass); at the end these are all.
use native.Mathlib.Omega.{arith}
use mathlib.Core.Path.{◌≡◌, refl, sym, ap, ◌∙◌}
use mathlib.Core.Bool.{true}
use mathlib.Core.List.{List, ◌++◌, append-nil}
use Prim.Native.Nat.{ℕ, ◌+◌}
use native.Mathlib.Nat.{add-zero}
use lib.ListN.{length, get_or, set, take, length-set}
use lib.Seq.{take_all}
use Rattle.bits.specs.Sets.{keep}
use Rattle.bits.proofs.Sets.{keep_all, all_true}
use Rattle.picking.proofs.Picking.{pick_more}
use Rattle.picking.proofs.copy.Goals as goal

pub loop-i-init : goal.loop-i-init
unfolding keep
loop-i-init c =
    (refl, ap (λ (k : ℕ). take k c.args.out.now) (add-zero c.args.m) ∙ sym (append-nil _))

pub loop-i-preserved : goal.loop-i-preserved
loop-i-preserved c =
    let e : c.args.m + c.loop-i.i + 1 ≡ c.args.m + (c.loop-i.i + 1) = omega arith in (
      simp length-set c.loop-i.invariant.0,
      ap (λ (k : ℕ). take k (set c.loop-i.out (c.args.m + c.loop-i.i) (get_or c.args.loans.now c.loop-i.i 0))) (sym e)
          ∙ pick_more (λ w. true) c.args.loans.now c.loop-i.i (omega arith) (take c.args.m c.args.out.now) c.loop-i.out (c.args.m + c.loop-i.i) (omega arith) c.loop-i.invariant.1
          1 refl,
    )

pub returns : goal.returns
returns c =
    let e : c.loop-i.i ≡ length c.args.loans.now = omega arith in
    ap (λ (k : ℕ). take (c.args.m + k) c.loop-i.out) (sym e) ∙ c.loop-i.invariant.1
    ∙ ap (λ (x : List ℕ). take c.args.m c.args.out.now ++ x)
    (keep_all (λ w. true) (take c.loop-i.i c.args.loans.now) (all_true (take c.loop-i.i c.args.loans.now)) ∙ take_all c.loop-i.i c.args.loans.now (omega arith))
