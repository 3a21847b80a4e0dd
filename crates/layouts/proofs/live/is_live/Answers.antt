use mathlib.Core.Path.{◌∙◌}
use Rattle.bits.specs.Cells.{at}
use Rattle.layouts.proofs.live.is_live.Goals as goal

pub returns : goal.returns
unfolding at
returns c = c.has.ensures ∙ rw (c.byte_at.ensures, c.number-i.ensures)
