-- After k places the tickets before them are without the item, and the others as they were (`Swept`).
use borrow.Author.Rules.{rules}
use mathlib.Core.Path.{◌≡◌}
use native.Mathlib.Omega.{arith}
use Rattle.ticketing.specs.Machine.{without}
use Rattle.ticketing.specs.Image.{machine_of}
use Rattle.tickets.proofs.Places.{swept-start, swept-next, swept-end}
use Rattle.tickets.proofs.drop_all.Goals as goal

pub loop-k-init : goal.loop-k-init
loop-k-init c =
    swept-start (without c.args.on.0) c.args.image.now c.told-image

pub loop-k-preserved : goal.loop-k-preserved
loop-k-preserved c =
    swept-next (without c.args.on.0) c.args.image.now c.told-image _ c.loop-k.k (search rules) (search rules) c.loop-k.invariant _ c.drop_at.ensures

pub returns : goal.returns
unfolding machine_of
returns c =
    let e : c.loop-k.k ≡ 1024 = omega arith in
    swept-end (without c.args.on.0) c.args.image.now c.told-image c.loop-k.image (rw e at c.loop-k.invariant)
