-- The one verb that can have the line decides what it asks for.
use mathlib.Core.Path.{◌∙◌}
use Rattle.lines.proofs.Turns.{parse_within, parse_got, parse_not}
use Rattle.lines.proofs.parse.Goals as goal

pub returns-in_err-values : goal.returns-in_err-values
returns-in_err-values c = c.from_residual.ensures ∙ parse_not c.args.line.now _ c.of-action.ensures c.in_err-values.ensures

pub meaning_of-requires : goal.meaning_of-requires
meaning_of-requires c = parse_within c.args.line.now _ _ c.in_ok-values.ensures

pub returns : goal.returns
returns c = c.meaning_of.ensures ∙ parse_got c.args.line.now _ c.of-action.ensures _ c.in_ok-values.ensures
