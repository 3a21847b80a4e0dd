-- After k turns the first k bytes are those of the rows to come (`Swept`), and the rest is 0 (`zeroed-all`). After 8 that is the live
-- set, and so the rows to come without any item's grants (`rows_begin`).
use lib.ListN.{get_or}
use Rattle.layouts.specs.Layouts.{lists, rows}
use Rattle.layouts.specs.Convert.{convert}
use Rattle.bits.proofs.Sweep.{Swept}
use Rattle.convert.proofs.start_rows.Given as goal

abbrev pub invariant-loop-k : goal.invariant-loop-k
invariant-loop-k l =
    Swept (λ i x. get_or (convert lists rows l.source) i 0) l.initial.target l.k l.target
