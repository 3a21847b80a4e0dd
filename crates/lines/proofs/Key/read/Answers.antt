-- The kind of the value is that of the key, by cases (`value_of-set`, `value_of-number`).
use mathlib.Core.Path.{◌∙◌}
use Rattle.lines.proofs.Turns.{key_none, key_set, key_number}
use Rattle.lines.proofs.Key.read.Goals as goal

pub returns-in_err-value : goal.returns-in_err-value
returns-in_err-value c = c.from_residual.ensures ∙ key_none c.args.self c.args.s.now c.args.at (c.text.ensures) c.in_err-value.ensures

pub returns-in-Set : goal.returns-in-Set
returns-in-Set c = c.read_set.ensures ∙ key_set c.args.self c.args.s.now c.args.at (c.text.ensures) c.in_ok-value.ensures c.in-Set.is

pub returns-in_default : goal.returns-in_default
returns-in_default c = c.read_number.ensures ∙ key_number c.args.self c.args.s.now c.args.at (c.text.ensures) c.in_ok-value.ensures c.in_default.not-Set
