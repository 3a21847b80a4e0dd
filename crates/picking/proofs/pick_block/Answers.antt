-- Where none of the loans is of the key, nothing is put behind those picked before (`keep-none`); where all are, all of them
-- (`keep-every`); otherwise the loans are picked one by one.
use native.Mathlib.Omega.{arith}
use mathlib.Core.Path.{sym, ap, ◌∙◌}
use mathlib.Core.List.{List, ◌++◌}
use Prim.Native.Nat.{ℕ}
use lib.ListN.{take}
use Rattle.picking.specs.Runs.{of_key}
use Rattle.picking.proofs.Picking.{keep-every}
use Rattle.picking.proofs.pick_block.Goals as goal

pub returns : goal.returns
returns c =
    record {
      count = omega arith;
      are = (rw c.told-loans at c.copy.ensures)
          ∙ ap (λ (x : List ℕ). take c.args.m c.args.out.now ++ x)
          (sym (keep-every (of_key c.args.key) c.args.loans.now (omega (arith, c.count_of-n.ensures))));
    }
