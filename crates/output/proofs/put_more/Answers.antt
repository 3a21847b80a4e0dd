-- After i turns the first i persons are written, a comma before each (`more_next`), in at most 4 bytes each; at the end that is all, and
-- seven of them take at most 28.
use Rattle.output.proofs.Written.{wrote_then, wrote_none, wrote_is, more_next}
use Rattle.output.specs.Output.{more_persons}
use native.Mathlib.Omega.{arith}
use mathlib.Core.Path.{refl, sym, ◌∙◌}
use Rattle.output.proofs.put_more.Goals as goal

pub loop-person-init : goal.loop-person-init
loop-person-init c = (refl, unfold more_persons in (wrote_none _ _), omega arith)

pub loop-person-preserved : goal.loop-person-preserved
loop-person-preserved c = (
  c.put_next-p.auto.buf ∙ c.loop-person.invariant.0,
  wrote_is (sym (more_next c.args.via.now c.loop-person.person-index c.loop-person-test.true))
      (wrote_then c.loop-person.invariant.1 c.put_next-p.ensures.0),
  omega arith,
)
