-- Two runs: the loans with no last shift, and those from the first on that has the present shift or a later one. These are the loans
-- that carry (`picked_runs`).
use Prim.Native.Nat.{ℕ, ◌-◌}
use lib.ListN.{length, take, drop}
use mathlib.Core.Path.{subst}
use Rattle.delegation.specs.Below.{Below}
use Rattle.picking.specs.Runs.{Appended}
use Rattle.picking.proofs.Runs.{picked_runs}
use Rattle.picking.proofs.carrying.Goals as goal

pub returns : goal.returns
returns c =
    let below = subst (λ (x : ℕ). Below c.args.loans.now x c.below-current.result) c.least.ensures c.below-current.ensures in
    let rest = subst (λ (n : ℕ). Appended c.pick_run-m.new.out c.pick_run-m.result (take (length c.args.loans.now - n) (drop n c.args.loans.now)) c.args.key c.pick_run.result c.pick_run.new.out)
    c.max-from.ensures c.pick_run.ensures in
    picked_runs c.args.loans.now c.args.shift.0 c.args.key c.below-dated.result c.below-current.result c.requires.2
    (λ i. (c.shared_slice_known-1.given i).fits) c.below-dated.ensures below c.args.out.now c.pick_run-m.new.out c.pick_run.new.out
    c.pick_run-m.result c.pick_run.result c.pick_run-m.ensures rest
