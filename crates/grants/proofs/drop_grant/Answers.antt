-- The bit of the grant's place is bit `depth` of its byte, so taking it out is what dropping asks (`grants-drop`).
use native.Mathlib.Omega.{arith}
use Rattle.grants.proofs.Bytes.{grants-drop}
use Rattle.grants.proofs.drop_grant.Goals as goal

pub returns : goal.returns
returns c =
    grants-drop c.args.grants.now c.requires.0 (λ i h. omega (arith, c.slice_known-1.given i))
    c.args.to.0 c.args.on.0 c.args.right.0 c.requires.1 c.requires.2 c.requires.3 c.place-at.result
    c.place-at.ensures.0 c.args.depth.0 c.number.result _ c.requires.4
    c.number.ensures c.without.ensures
