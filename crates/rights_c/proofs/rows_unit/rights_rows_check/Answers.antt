-- The unit's answer tells its number and yes or no (`told`): the one is returned, the other written as 1 or 0.
use mathlib.Core.Path.{ap, ◌∙◌}
use Rattle.layouts.specs.Layouts.{rows}
use Rattle.layouts.proofs.Ends.{told}
use Rattle.rights_c.specs.Exports.{flag}
use Rattle.rights_c.proofs.Found.{flag-of}
use Rattle.rights_c.proofs.rows_unit.rights_rows_check.Goals as goal

pub returns : goal.returns
returns c =
    let r = told rows c.args.image.now c.args.who c.args.on c.args.right _ _ c.check-c.ensures in
    (c.number.ensures ∙ r.0, flag-of _ ∙ ap flag (c.unwrap_or.ensures ∙ r.1), r.2)
