-- The target lacks, of the persons with every right on this item, those still in `rest` (`pending`), at first all (`full_open`). A turn
-- puts one's byte in, all ones (`full_put`), and `rest`, which has no others, grows smaller until it is 0 (`rows_close`). Then the lists
-- are put in.
use mathlib.Core.Path.{◌≡◌}
use mathlib.Core.Bool.{true}
use Prim.Native.Nat.{ℕ, ◌*◌}
use Rattle.bits.specs.Bits.{bit}
use Rattle.layouts.specs.Layouts.{lists, rows}
use Rattle.layouts.specs.Convert.{convert}
use Rattle.convert.specs.Blocks.{lacking, full_on, stage}
use Rattle.convert.proofs.Pending.{pending}
use Rattle.convert.proofs.put_column.Given as goal

abbrev pub invariant-loop-p : goal.invariant-loop-p
invariant-loop-p l =
    (l.target ≡ lacking 8 4104 (pending (stage l.source) rows.person (9 * l.on) l.p-iterator.0) (convert lists rows l.source))
    × ((p : ℕ) → bit l.p-iterator.0 p ≡ true → bit (full_on l.source l.on) p ≡ true)
