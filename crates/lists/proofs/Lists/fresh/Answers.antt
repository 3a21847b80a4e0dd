use mathlib.Core.Path.{refl, sym}
use native.Mathlib.Omega.{arith}
use Rattle.layouts.specs.Layouts.{lists}
use Rattle.layouts.proofs.Layouts.{lists-laws}
use Rattle.layouts.proofs.Edits.{fresh_cells}
use Rattle.lists.proofs.Lists.fresh.Goals as goal

pub returns : goal.returns
unfolding lists
returns c = let f = fresh_cells lists lists-laws 1 (λ z. omega arith) refl in (sym f.0, sym f.1)
