-- In each arm the text written is that of the tail, which the match has told; of nothing no byte is written (`wrote_none`).
use Rattle.output.specs.Output.{said_text, tail_text}
use Rattle.output.proofs.Written.{wrote_none}
use native.Mathlib.Omega.{arith}
use Rattle.output.proofs.put_tail.Goals as goal

pub returns-in-Nothing : goal.returns-in-Nothing
unfolding tail_text
returns-in-Nothing c = rw c.in-Nothing.is (wrote_none _ _, omega arith)

pub returns-in-Dashes : goal.returns-in-Dashes
unfolding tail_text
returns-in-Dashes c = rw c.in-Dashes.is (c.put_bytes.ensures, omega arith)

pub returns-in-Swept : goal.returns-in-Swept
unfolding tail_text said_text
returns-in-Swept c =
    rw c.in-Swept.is
    (c.put_field.ensures.0, omega arith)

pub returns-in-Unswept : goal.returns-in-Unswept
unfolding tail_text
returns-in-Unswept c = rw c.in-Unswept.is (c.put_bytes-in-Unswept.ensures, omega arith)
