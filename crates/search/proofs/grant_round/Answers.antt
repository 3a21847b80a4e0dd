-- After p turns the first p entries are the heights of their grant bytes (`fill_more`). After 64 turns that is the round.
use native.Mathlib.Omega.{arith}
use Rattle.delegation.specs.Search.{grant_round}
use Rattle.bits.proofs.Indexed.{tabulate_ext}
use Rattle.search.proofs.grant_round.Goals as goal

pub returns : goal.returns
unfolding grant_round
returns c =
    tabulate_ext 64 _ 0 c.loop-p.round c.loop-p.invariant.0 (λ q h. c.loop-p.invariant.1 q (omega arith))
