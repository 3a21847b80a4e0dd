-- No line takes one of three units out of order, and fresh ones are in order.
use mathlib.Core.Path.{sym, ap, ◌∙◌}
use mathlib.Core.Bool.{Bool, true, false, cond}
use mathlib.Core.List.{List}
use Prim.Native.Nat.{ℕ}
use Rattle.std.specs.Prelude.{Option, Some, None}
use Rattle.model.specs.declared.Command.{Command}
use Rattle.model.specs.Answers.{flat}
use Rattle.model.specs.Journal.{fresh}
use Rattle.model.proofs.Invariant.{inv-fresh}
use Rattle.model.proofs.Steps.{kept_fresh}
use Rattle.layouts.specs.Machine.{Machine, step_of, InOrder, KeepsOrder}
use Rattle.layouts.specs.Layouts.{lists, rows, guarded, flat_unit}
use Rattle.layouts.proofs.Layouts.{guard_of, fresh_of_lem, lists-laws, rows-laws}
use Rattle.layouts.proofs.KeepsOrder.{lists-keep-order, rows-keep-order}
use Rattle.delegation.specs.Images.{Images}
use Rattle.delegation.specs.ChainUnit.{chain_guard}
use Rattle.delegation.proofs.ChainUnit.{guard_chain, fresh-chain}
use Rattle.delegation.proofs.KeepsOrder.{chain_keeps_order}
use Rattle.agreement.specs.Agreement.{Units, fresh_units}
use Rattle.lines.specs.declared.Request.{Request}
use Rattle.lines.specs.declared.Request.TheVariants.{Run, Ask}
use Rattle.transcript.specs.Program.{units_after}
use Rattle.reader.specs.Replies.{UnitsInOrder}

-- a unit that is not called for a command stays as it is
called-or-not : {S : Type 0} (M : Machine S) → KeepsOrder M → (s : S) (c : Command) (b : Bool) → InOrder M s
    → InOrder M (cond b (step_of M s c) s)
called-or-not M k s c true g = k s c g
called-or-not M k s c false g = g

pub line_keeps_order : (u : Units) (x : Option Request) → UnitsInOrder u → UnitsInOrder (units_after u x)
unfolding units_after
line_keeps_order u (Some (Run c)) h = record {
  list = called-or-not (flat_unit lists) lists-keep-order u.lists c (flat c) h.list;
  row = called-or-not (flat_unit rows) rows-keep-order u.rows c (flat c) h.row;
  chain = chain_keeps_order u.chains c h.chain;
}
line_keeps_order u (Some (Ask who on right)) h = h
line_keeps_order u None h = h

pub fresh-in_order : UnitsInOrder fresh_units
unfolding fresh_units
fresh-in_order = record {
  list = sym (ap (λ (s : List ℕ). guarded lists s 0) (fresh_of_lem lists lists-laws) ∙ guard_of lists lists-laws fresh inv-fresh 0);
  row = sym (ap (λ (s : List ℕ). guarded rows s 0) (fresh_of_lem rows rows-laws) ∙ guard_of rows rows-laws fresh inv-fresh 0);
  chain = sym (ap (λ (s : Images). chain_guard s 0) fresh-chain ∙ guard_chain fresh kept_fresh 0);
}
