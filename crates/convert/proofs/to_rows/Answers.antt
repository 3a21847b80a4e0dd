-- A source or a target of a wrong length is refused (`source-short`, `convert-short`), then what looking at the source refuses
-- (`convert_stops`). What is not refused is turned (`convert_done`).
use mathlib.Core.Path.{sym, ap, ◌∙◌, subst}
use Rattle.model.proofs.Answers.{passed-on}
use Rattle.layouts.specs.Layouts.{lists, rows}
use Rattle.layouts.specs.Convert.{convert, Converts}
use Rattle.layouts.proofs.Convert.{source-short, convert-short, convert_stops, convert_done}
use Rattle.convert.proofs.to_rows.Goals as goal

pub returns-in_default : goal.returns-in_default
unfolding lists
returns-in_default c = source-short lists rows c.args.source.now c.args.target.now c.in_default.ensures.cases

pub returns-in_default-as_mut_array : goal.returns-in_default-as_mut_array
unfolding rows
returns-in_default-as_mut_array c =
    convert-short lists rows c.args.source.now c.args.target.now c.in_default-as_mut_array.ensures.cases

pub returns-in_err-inspect : goal.returns-in_err-inspect
unfolding rows
returns-in_err-inspect c =
    let whole = c.in-Some-as_mut_array.ensures.cases in
    rw whole.same
    (subst (λ r. Converts lists rows c.args.source.now c.args.target.now r c.args.source.now c.args.target.now) (sym (passed-on _ _ c.from_residual.ensures (λ y i. i)))
    (convert_stops lists rows c.args.source.now c.args.target.now _ whole.long c.in_err-inspect.ensures.0.0))

pub returns : goal.returns
unfolding rows
returns c =
    convert_done lists rows c.args.source.now c.args.target.now _ c.in-Some-as_mut_array.ensures.cases.long c.in_ok-inspect.ensures.0.0
    (c.fill_rows.ensures ∙ ap (convert lists rows) c.in-Some.ensures.cases.same)
