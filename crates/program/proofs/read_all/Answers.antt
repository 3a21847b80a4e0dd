-- Turn after turn: the run stands after the parts that were taken so far (`Reached`).
use Rattle.program.proofs.Parts.{reached_start, reached_next, reached_failed}
use Rattle.program.proofs.read_all.Goals as goal

pub loop-init : goal.loop-init
loop-init g c = reached_start c.start-next.ensures.0 c.start-next.ensures.1

pub returns-in_err-p : goal.returns-in_err-p
returns-in_err-p g c = reached_failed c.loop.invariant c.in_err-p.ensures

pub loop-preserved : goal.loop-preserved
loop-preserved g c = reached_next c.loop.invariant c.in-Some.p (rw c.in-Some.is at c.in_ok-p.ensures)
