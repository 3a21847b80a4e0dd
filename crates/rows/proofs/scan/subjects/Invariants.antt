-- After n turns the word has, of the first n persons, the bits of those who hold a right (`bits_step`); at the end n is 64.
use mathlib.Core.Path.{◌≡◌}
use Prim.Native.Nat.{◌≤◌}
use Rattle.bits.specs.Bits.{of_bits}
use Rattle.layouts.specs.Subjects.{is_subject}
use Rattle.layouts.specs.Layouts.{rows}
use Rattle.rows.proofs.scan.subjects.Given as goal

abbrev pub invariant-loop-who : goal.invariant-loop-who
invariant-loop-who l = (l.who ≤ 64) × (l.set ≡ of_bits l.who (is_subject rows l.image))
