-- After k turns the first k words are without the item's bit (`Swept`); at the end that is all of them (`swept_is`).
use mathlib.Core.Path.{◌≡◌}
use native.Mathlib.Omega.{arith}
use lib.ListN.{length}
use Rattle.bits.proofs.Sweep.{swept_is}
use Rattle.lists.proofs.drop_name.Goals as goal

pub returns : goal.returns
returns c =
    let e : c.loop-w.w-index ≡ length c.args.image.now = omega arith in
    swept_is _ _ _ (rw e at c.loop-w.invariant.1)
