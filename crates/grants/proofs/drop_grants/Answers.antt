-- The eight bits of the byte are the person's grants there, one for each depth, so a byte of 0 ends them and no other
-- (`grants-withdraw`).
use native.Mathlib.Omega.{arith}
use Rattle.grants.proofs.Bytes.{grants-withdraw}
use Rattle.grants.proofs.drop_grants.Goals as goal

pub returns : goal.returns
returns c =
    grants-withdraw c.args.grants.now c.requires.0 (λ i h. omega (arith, c.slice_known-1.given i)) c.args.to.0
    c.args.on.0 c.args.right.0 c.requires.1 c.requires.2 c.requires.3 c.place-at.result c.place-at.ensures.0
