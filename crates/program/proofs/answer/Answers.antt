-- The chunk is taken part after part: the pieces done are its first bytes (`Through`), whether all were taken or a write failed.
use native.Mathlib.Omega.{arith}
use Prim.Native.Nat.{◌-◌}
use lib.ListN.{length, drop, length-drop}
use lib.Seq.{take_all}
use Rattle.stream.proofs.Session.{none_left, consumes_part}
use Rattle.program.proofs.Parts.{through_start, through_next, through_end, through_stop, stopped}
use Rattle.program.proofs.answer.Goals as goal

pub loop-rest-init : goal.loop-rest-init
loop-rest-init g c = through_start _ _

pub returns-then-done-eq0 : goal.returns-then-done-eq0
returns-then-done-eq0 g c = through_stop (through_next c.loop-rest.invariant c.consume-done.ensures)

pub returns-in_err-write : goal.returns-in_err-write
returns-in_err-write g c =
    stopped _ c.from_residual.ensures.0 (through_stop (through_next c.loop-rest.invariant c.consume-done.ensures))

pub slice_bounds-rest-count : goal.slice_bounds-rest-count
slice_bounds-rest-count g c = consumes_part c.consume-done.ensures

pub slice_bounds-rest-start : goal.slice_bounds-rest-start
slice_bounds-rest-start g c = consumes_part c.consume-done.ensures

pub loop-rest-preserved : goal.loop-rest-preserved
loop-rest-preserved g c =
    rw (take_all (length c.loop-rest.rest.now - c.consume-done.result.used) (drop c.consume-done.result.used c.loop-rest.rest.now)
    (omega (arith, length-drop c.consume-done.result.used c.loop-rest.rest.now)))
    (through_next c.loop-rest.invariant c.consume-done.ensures)

pub returns : goal.returns
returns g c = through_end c.loop-rest.invariant (none_left c.loop-rest.rest.now c.is_empty.ensures c.loop-rest-test.false)
