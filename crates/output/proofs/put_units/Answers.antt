-- The three fields are written one after another (`wrote_units`); their keys and at most 10 bytes each are 48.
use Rattle.output.proofs.Written.{wrote_units}
use native.Mathlib.Omega.{arith}
use Rattle.output.proofs.put_units.Goals as goal

pub returns : goal.returns
returns c = (
  wrote_units c.args.reply.list c.args.reply.row c.args.reply.chain
      c.put_field-p.ensures.0
      c.put_field-q.ensures.0
      c.put_field.ensures.0,
  omega arith,
)
