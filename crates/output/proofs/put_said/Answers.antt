-- In each arm the text written is that of the field, which the match has told; a number of 32 bits has at most 10 digits (`shown_32`).
use Rattle.output.specs.Output.{said_text}
use Rattle.lines.proofs.Decimal.{shown_32}
use native.Mathlib.Omega.{arith}
use mathlib.Core.Path.{ap}
use Prim.Native.Nat.{ℕ}
use lib.ListN.{length}
use Rattle.lines.specs.Show.{shown}
use Rattle.output.proofs.put_said.Goals as goal

pub put_number-requires : goal.put_number-requires
put_number-requires c = rw c.from.ensures (omega (arith, shown_32 c.in-Number.n (omega arith)))

pub returns-in-Number : goal.returns-in-Number
unfolding said_text
returns-in-Number c =
    rw c.in-Number.is (
      rw c.from.ensures at c.put_number.ensures,
      omega (arith, c.put_number.ensures.place, ap (λ (n : ℕ). length (shown n)) c.from.ensures, shown_32 c.in-Number.n (omega arith)),
    )

pub returns-in-Yes : goal.returns-in-Yes
unfolding said_text
returns-in-Yes c = rw c.in-Yes.is (c.put_bytes.ensures, omega arith)

pub returns-in-No : goal.returns-in-No
unfolding said_text
returns-in-No c = rw c.in-No.is (c.put_bytes-in-No.ensures, omega arith)

pub returns-in-Passed : goal.returns-in-Passed
unfolding said_text
returns-in-Passed c = rw c.in-Passed.is (c.put_bytes-in-Passed.ensures, omega arith)
