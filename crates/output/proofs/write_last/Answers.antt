-- The key with the count, then byte 10, one after the other (`wrote_field`): at most 27 bytes.
use Rattle.output.specs.Output.{last_output, newline}
use Rattle.lines.specs.Bytes.{bytes}
use Rattle.lines.specs.Show.{shown}
use Rattle.output.proofs.Written.{wrote_field}
use native.Mathlib.Omega.{arith}
use Rattle.output.proofs.write_last.Goals as goal

pub returns : goal.returns
unfolding last_output newline
returns c = (
  wrote_field (bytes "lines=") (shown
      c.args.n)
      c.put_count-p.ensures.0 c.put_bytes.ensures,
  omega arith,
)
