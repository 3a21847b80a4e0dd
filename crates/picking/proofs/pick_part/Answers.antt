-- Behind what was there before stand the loans of the key among the first i: each loan is written there, and the place moves on where
-- it counts (`pick_more`). The loop ends with i at the last.
use borrow.Author.Rules.{rules}
use native.Mathlib.Omega.{arith}
use mathlib.Core.Path.{refl, sym}
use lib.ListN.{take, length-set}
use mathlib.Core.List.{append-nil}
use Rattle.bits.specs.Sets.{keep}
use Rattle.picking.specs.Runs.{of_key}
use Rattle.picking.proofs.Picking.{pick_more}
use Rattle.picking.proofs.pick_part.Goals as goal

pub loop-w-init : goal.loop-w-init
unfolding keep
loop-w-init c = (refl, search rules, sym (append-nil _))

pub loop-w-preserved : goal.loop-w-preserved
loop-w-preserved c = (
  simp length-set c.loop-w.invariant.0,
  search rules,
  pick_more (of_key c.args.key) c.args.loans.now c.loop-w.w-index (omega arith) (take c.args.m c.args.out.now) c.loop-w.out c.loop-w.m
      (omega (arith, c.requires, c.loop-w.invariant.0, c.loop-w.invariant.1)) c.loop-w.invariant.2 _ (search rules),
)
