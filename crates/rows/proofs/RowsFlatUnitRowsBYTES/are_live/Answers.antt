use Rattle.layouts.specs.Layouts.{rows}
use Rattle.rows.proofs.RowsFlatUnitRowsBYTES.are_live.Goals as goal

pub returns : goal.returns
unfolding rows
returns c = c.are_live.ensures
