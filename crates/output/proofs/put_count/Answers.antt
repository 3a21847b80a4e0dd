-- The key and then the digits (`wrote_then`); a number of 64 bits has at most 20 of them (`shown_64`).
use Rattle.lines.proofs.Decimal.{shown_64}
use Rattle.output.proofs.Written.{wrote_then}
use native.Mathlib.Omega.{arith}
use Rattle.output.proofs.put_count.Goals as goal

pub put_number-requires : goal.put_number-requires
put_number-requires c = omega (arith, shown_64 c.args.n (omega arith))

pub returns : goal.returns
returns c = (
  wrote_then c.put_bytes-p.ensures c.put_number.ensures,
  omega
      (arith, shown_64 c.args.n (omega arith)),
)
