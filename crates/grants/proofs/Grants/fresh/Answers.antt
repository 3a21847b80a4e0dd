use native.Mathlib.Omega.{arith}
use mathlib.Core.Path.{refl, sym}
use Rattle.layouts.specs.Layouts.{grant_bytes}
use Rattle.layouts.proofs.Layouts.{bytes_laws}
use Rattle.layouts.proofs.Edits.{fresh_cells}
use Rattle.grants.proofs.Grants.fresh.Goals as goal

pub returns : goal.returns
unfolding grant_bytes
returns c = let f = fresh_cells grant_bytes bytes_laws 8 (λ z. omega arith) refl in (sym f.0, sym f.1)
