-- The depth with its key, the key of the persons, and the persons are written one after another (`wrote_field`, `wrote_then`). At most
-- eight are written, and the buffer has no more (`take_min`); 17, 5 and 31 bytes are 53.
use lib.ListN.{take}
use mir.Syntax.{w8}
use borrow.Kind.Array.{good_length, e_int}
use Rattle.output.specs.Output.{said_text, tail_text, persons}
use Rattle.lines.specs.Bytes.{bytes}
use Rattle.lines.specs.Show.{shown}
use Rattle.output.proofs.Written.{wrote_then, wrote_is, wrote_field, take_min}
use native.Mathlib.Omega.{arith}
use mathlib.Core.Path.{ap, ◌∙◌}
use Prim.Native.Nat.{ℕ}
use Rattle.output.proofs.put_chain.Goals as goal

pub returns : goal.returns
unfolding tail_text said_text
returns c = (
  wrote_field (bytes " depth=") (shown c.args.depth)
      c.put_field-p.ensures.0
      (wrote_then c.put_bytes-q.ensures
      (wrote_is (ap persons (ap (λ (n : ℕ). take n c.args.via) c.in_buffer-n.ensures.0
      ∙ take_min c.args.persons 8 c.args.via (good_length (e_int w8) 8 c.args.via _ c.well_formed.1.1.1.1.0))) c.put_persons.ensures.0)),
  omega arith,
)
