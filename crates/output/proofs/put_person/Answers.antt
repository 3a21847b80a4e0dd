use Rattle.lines.proofs.Decimal.{shown_8}
use native.Mathlib.Omega.{arith}
use mathlib.Core.Path.{ap}
use Prim.Native.Nat.{ℕ}
use lib.ListN.{length}
use Rattle.lines.specs.Show.{shown}
use Rattle.output.proofs.put_person.Goals as goal

pub put_number-requires : goal.put_number-requires
put_number-requires c = rw c.from.ensures (omega (arith, shown_8 c.args.person (omega arith)))

pub returns : goal.returns
returns c = (
  rw c.from.ensures at c.put_number.ensures,
  omega (arith, c.put_number.ensures.place, ap (λ (n : ℕ). length (shown n)) c.from.ensures, shown_8 c.args.person (omega arith)),
)
