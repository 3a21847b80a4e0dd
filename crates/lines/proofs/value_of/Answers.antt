-- Before each of 10 digits the value is below 10 ^ 9, so that nothing overflows (`value_room`).
use Rattle.lines.proofs.Line.{value_digit, value_next}
use Rattle.lines.proofs.value_of.Goals as goal

pub overflow_sub-b : goal.overflow_sub-b
overflow_sub-b c = (value_digit c.loop-b.invariant c.requires.decimal c.requires.few c.loop-b-test.true).0

pub loop-b-preserved : goal.loop-b-preserved
loop-b-preserved c =
    rw c.from.ensures (value_next c.loop-b.invariant c.requires.decimal c.requires.few c.loop-b-test.true)
