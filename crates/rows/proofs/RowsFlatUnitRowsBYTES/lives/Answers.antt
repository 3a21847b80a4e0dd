use Rattle.layouts.specs.Layouts.{rows}
use Rattle.rows.proofs.RowsFlatUnitRowsBYTES.lives.Goals as goal

pub returns : goal.returns
unfolding rows
returns c = c.is_live.ensures
