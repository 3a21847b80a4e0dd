-- The target lacks, of this list, the persons still in `rest` (`pending`), at first all of the list but those with every right
-- (`list_open`). A turn puts one's bit in (`list_put`), and `rest`, which has no others, grows smaller until it is 0 (`rows_close`).
use mathlib.Core.Path.{◌≡◌}
use mathlib.Core.Bool.{true, not, ◌&&◌}
use Prim.Native.Nat.{ℕ, ◌+◌, ◌*◌, ◌<◌}
use lib.ListN.{get_or}
use Rattle.bits.specs.Bits.{bit}
use Rattle.layouts.specs.Layouts.{lists, rows}
use Rattle.layouts.specs.Convert.{convert}
use Rattle.convert.specs.Blocks.{lacking, full_on, stage}
use Rattle.convert.proofs.Pending.{pending}
use Rattle.convert.proofs.put_list.Given as goal

abbrev pub invariant-loop-p : goal.invariant-loop-p
invariant-loop-p l =
    (l.target ≡ lacking 8 4104 (pending (stage l.source) rows.person (9 * l.on + 1 + l.r) l.p-iterator.0) (convert lists rows l.source))
    × ((p : ℕ) → p < 64 → bit l.p-iterator.0 p ≡ true → bit (get_or l.source (1 + 8 * l.on + l.r) 0) p && not (bit (full_on l.source l.on) p) ≡ true)
