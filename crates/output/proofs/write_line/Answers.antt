-- The count, the units' fields, the tail and byte 10 are written one after another (`wrote_line`): at most 127 bytes.
use Rattle.output.proofs.Written.{wrote_line}
use Rattle.output.specs.Output.{newline}
use native.Mathlib.Omega.{arith}
use Rattle.output.proofs.write_line.Goals as goal

pub returns : goal.returns
unfolding newline
returns c = (
  wrote_line c.args.n c.args.reply c.args.via
      c.put_count-p.ensures.0 c.put_units-q.ensures.0 c.put_tail-r.ensures.0 c.put_bytes.ensures,
  omega arith,
)
