use mathlib.Core.Path.{refl, sym}
use native.Mathlib.Omega.{arith}
use Rattle.layouts.specs.Layouts.{rows}
use Rattle.layouts.proofs.Layouts.{rows-laws}
use Rattle.layouts.proofs.Edits.{fresh_cells}
use Rattle.rows.proofs.Rows.fresh.Goals as goal

pub returns : goal.returns
unfolding rows
returns c = let f = fresh_cells rows rows-laws 8 (λ z. omega arith) refl in (sym f.0, sym f.1)
