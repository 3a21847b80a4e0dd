-- The byte has one bit for each depth, so the person has a grant there exactly where it is not 0 (`grants-held`).
use native.Mathlib.Omega.{arith}
use Rattle.grants.proofs.Bytes.{grants-held}
use Rattle.grants.proofs.holds.Goals as goal

pub returns : goal.returns
returns c =
    grants-held c.args.grants.now c.args.who.0 c.args.on.0 c.args.right.0 c.place-at.result c.place-at.ensures.0
    (omega (arith, c.shared_slice_known-1.given c.place-at.result))
