use native.Mathlib.Omega.{arith}
use Rattle.rows.proofs.Scans.{row-holds}
use Rattle.rows.proofs.scan.holds_any.Goals as goal

pub returns : goal.returns
returns c = row-holds c.args.image.now (λ i. omega (arith, c.fits-image i)) c.args.who c.told-image c.requires _ c.has_right.ensures
