-- The target lacks, of this block, the bits still in `rest` (`pending`), at first all that the eight bytes have (`lists_open`). A turn
-- puts one of them in (`lists-put`), and `rest`, each of whose bits is one of theirs, grows smaller until it is 0 (`lists_close`).
use mathlib.Core.Path.{◌≡◌}
use mathlib.Core.Bool.{true}
use Prim.Native.Nat.{ℕ, ◌+◌, ◌*◌}
use Rattle.bits.specs.Bits.{bit, of_bits}
use Rattle.bits.specs.Cells.{at}
use Rattle.layouts.specs.Layouts.{lists, rows}
use Rattle.layouts.specs.Convert.{convert}
use Rattle.convert.specs.Blocks.{lacking}
use Rattle.convert.proofs.Pending.{pending}
use Rattle.convert.proofs.Turned.{eights, eighth}
use Rattle.convert.proofs.put_eight.Given as goal

abbrev pub invariant-loop-b : goal.invariant-loop-b
invariant-loop-b l =
    (l.target ≡ lacking 64 513 (pending eights eighth l.t l.b-iterator.0) (convert rows lists l.source))
    × ((i : ℕ) → bit l.b-iterator.0 i ≡ true → bit (of_bits 64 (λ (j : ℕ). at 8 l.source (8 * (8 + 8 * l.t) + j))) i ≡ true)
