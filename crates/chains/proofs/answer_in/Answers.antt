-- The search is given the 64 bytes of the item and right, whose key is theirs as both are within their limits, and the loans picked for
-- them: so what it finds is what the check finds.
use native.Mathlib.Omega.{arith}
use mathlib.Core.Path.{◌≡◌, ◌∙◌}
use Prim.Native.Nat.{◌+◌, ◌-◌, ◌*◌}
use lib.ListN.{take, drop}
use Rattle.model.specs.Answers.{found_said}
use Rattle.delegation.specs.Search.{grants_of, best_of, best_chain, found_of, chain_of}
use Rattle.chains.proofs.answer_in.Goals as goal

pub returns : goal.returns
unfolding grants_of found_of chain_of
returns c =
    let key : c.key.result ≡ 8 * c.args.q.on.0 + c.args.q.right.0 = omega (arith, c.key.ensures, c.requires.0.item, c.requires.0.rights) in
    let m : 8 + 64 * c.key.result + 64 - (8 + 64 * c.key.result) ≡ 64 = omega arith in
    let own : take (8 + 64 * c.key.result + 64 - (8 + 64 * c.key.result)) (drop (8 + 64 * c.key.result) c.args.grants.now)
    ≡ grants_of c.args.grants.now (8 * c.args.q.on.0 + c.args.q.right.0) = λ j. take (m j) (drop (8 + 64 * key j) c.args.grants.now) in (
      c.best.ensures.0 ∙ (λ j. found_said (best_of (own j) (c.pick-m.ensures.1 j) c.args.q.who.0)),
      c.best.ensures.1 ∙ (λ j. best_chain (own j) (c.pick-m.ensures.1 j) c.args.q.who.0),
    )
