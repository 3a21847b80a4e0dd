-- The number is returned, and the count is written, 0 beside a refusal (`counted_number`).
use mathlib.Core.Path.{ap, ◌∙◌}
use Prim.Native.Nat.{ℕ}
use Rattle.std.specs.Prelude.{Result}
use Rattle.std.specs.Result.{result_unwrap_or}
use Rattle.model.specs.declared.Refusal.{Refusal}
use Rattle.model.proofs.Answers.{counted_number}
use Rattle.rights_c.proofs.chain_unit.rights_chains_sweep.Goals as goal

pub returns : goal.returns
returns c = (
  (c.number.ensures ∙ c.sweep-counted.ensures.0.0, c.sweep-counted.ensures.1),
  c.unwrap_or.ensures ∙ ap (λ (x : Result ℕ Refusal). result_unwrap_or x 0) c.sweep-counted.ensures.0.1 ∙ counted_number _ _,
)
