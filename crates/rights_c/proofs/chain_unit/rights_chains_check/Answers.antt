-- The unit's answer tells its number and what was found (`chain-told`); the number is returned, depth and persons are written, and
-- chain buffer and images are as the unit left them.
use mathlib.Core.Path.{ap, ◌∙◌}
use Rattle.model.specs.Answers.{Found}
use Rattle.delegation.specs.Images.{images}
use Rattle.delegation.proofs.ChainEnds.{chain-told}
use Rattle.rights_c.proofs.chain_unit.rights_chains_check.Goals as goal

pub returns : goal.returns
returns c =
    let r = chain-told (images c.args.grants.now c.args.loans.now) c.args.chain.now c.args.who c.args.on c.args.right _ c.check-c.ensures.0 in (
      c.number.ensures ∙ r.0,
      c.values-found.ensures.0 ∙ ap (λ (x : Found). x.depth) r.1,
      c.values-found.ensures.1 ∙ ap (λ (x : Found). x.persons) r.1,
      c.check-c.ensures.1,
      c.check-c.ensures.2,
    )
