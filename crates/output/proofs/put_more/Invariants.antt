-- After i turns the first i persons are written, a comma before each (`more_next`), in at most 4 bytes each.
use Rattle.output.specs.Output.{more_persons}
use Rattle.lines.specs.Show.{Wrote}
use mathlib.Core.Path.{◌≡◌}
use Prim.Native.Nat.{◌+◌, ◌*◌, ◌≤◌}
use lib.ListN.{length, take}
use Rattle.output.proofs.put_more.Given as goal

abbrev pub invariant-loop-person : goal.invariant-loop-person
invariant-loop-person l =
    (length l.buf ≡ length l.initial.buf) × Wrote l.initial.buf l.at (more_persons (take l.person-index l.via)) l.p l.buf
    × (l.p ≤ l.at + 4 * l.person-index)
