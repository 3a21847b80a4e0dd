-- Takes the chunk piece after piece: after each, the pieces done and what the definition takes of the rest make up what it takes
-- (`Going`), so that the loop stops where the definition does.
use native.Mathlib.Omega.{arith}
use mathlib.Core.Path.{sym, ◌∙◌}
use Prim.Native.Nat.{◌-◌}
use lib.ListN.{length, drop, length-drop}
use lib.Seq.{take_all}
use Rattle.stream.proofs.Session.{some_left, none_left, going_start, going_used, going_next, going_full, going_last, going_end}
use Rattle.stream.proofs.consume.Goals as goal
use Rattle.stream.proofs.consume.Goals.{then-loop-list-test+then-has_room+else-next-lt-LAST, then-loop-list-test+else-has_room, else-loop-list-test}

pub loop-list-init : goal.loop-list-init
loop-list-init c = going_start _ _ _

pub slice_bounds-rest-count : goal.slice_bounds-rest-count
slice_bounds-rest-count c =
    (going_used c.loop-list.invariant c.loop-list.auto.out c.take_piece-t.ensures (some_left _ c.is_empty.ensures c.loop-list-test.true)).1

pub slice_bounds-rest-start : goal.slice_bounds-rest-start
slice_bounds-rest-start c =
    (going_used c.loop-list.invariant c.loop-list.auto.out c.take_piece-t.ensures (some_left _ c.is_empty.ensures c.loop-list-test.true)).1

pub loop-list-preserved : goal.loop-list-preserved
loop-list-preserved c =
    let h = some_left _ c.is_empty.ensures c.loop-list-test.true in
    let g = going_next c.loop-list.invariant c.loop-list.auto.out c.take_piece-t.ensures h (sym c.if-has_room.ensures) c.if-next-lt-LAST.true in
    rw (take_all (length c.loop-list.rest.now - c.take_piece-t.result.used) (drop c.take_piece-t.result.used c.loop-list.rest.now)
    (omega (arith, length-drop c.take_piece-t.result.used c.loop-list.rest.now))) g

pub returns : goal.returns
returns c =
    elim c.loop-list-test.branch [
      | then-loop-list-test+then-has_room+else-next-lt-LAST w ↦
          going_last c.loop-list.invariant c.loop-list.auto.out w.if-next-lt-LAST.false
      | then-loop-list-test+else-has_room w ↦
          going_full c.loop-list.invariant c.loop-list.auto.out (sym w.has_room.ensures ∙ w.if-has_room.false)
      | else-loop-list-test w ↦
          going_end c.loop-list.invariant c.loop-list.auto.out (none_left _ c.is_empty.ensures w.loop-list-test.false)
    ]
