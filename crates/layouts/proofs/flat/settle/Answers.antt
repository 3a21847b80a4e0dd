-- The table is asked about the facts of the image: a refusal leaves the image (`judged_stops`), and where there is none the command is
-- applied (`judged_goes`).
use mathlib.Core.Path.{sym, subst}
use Rattle.model.proofs.Answers.{passed-on}
use Rattle.model.specs.Answers.{number_of}
use Rattle.model.specs.Commands.{raw_of}
use Rattle.layouts.specs.Machine.{Judged}
use Rattle.layouts.specs.Layouts.{flat_unit}
use Rattle.layouts.proofs.Ends.{judged_stops, judged_goes}
use Rattle.layouts.proofs.flat.settle.Goals as goal

pub returns-in_err-judge : goal.returns-in_err-judge
returns-in_err-judge g c =
    let M = flat_unit g.U.FlatUnit.layout in
    let s = g.U.FlatUnit.cells c.args.image.now in
    subst (λ r. Judged M s (raw_of c.args.t) (number_of r) s) (sym (passed-on _ _ c.from_residual.ensures (λ y i. i))) (judged_stops M s (raw_of c.args.t) _ c.facts.ensures _ c.in_err-judge.ensures)

pub returns : goal.returns
returns g c =
    judged_goes (flat_unit g.U.FlatUnit.layout) _ (raw_of c.args.t) _ c.facts.ensures _ _ c.in_ok-judge.ensures c.apply.ensures
