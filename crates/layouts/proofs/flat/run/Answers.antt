-- A buffer of a wrong length is refused by number 1. In any other, what numbers 1 to 3 admit decides (`command_admitted`): a refusal has
-- its number and changes nothing; past them the arguments are within their limits, and what the table and the edit make of the image is
-- the command's answer.
use mathlib.Core.Path.{refl, sym, subst}
use Rattle.model.proofs.Answers.{passed-on}
use Rattle.std.specs.Prelude.{Ok, Err}
use Rattle.model.specs.declared.Refusal.TheVariants as is
use Rattle.layouts.specs.Machine.{Ran}
use Rattle.layouts.specs.Layouts.{flat_unit}
use Rattle.layouts.proofs.Ends.{order-length}
use Rattle.layouts.proofs.Admission.{command_admitted}
use Rattle.layouts.proofs.flat.run.Goals as goal

pub returns-in_default : goal.returns-in_default
returns-in_default g c =
    let law = g.met.U.FlatUnit in
    command_admitted (flat_unit g.U.FlatUnit.layout) _ c.args.c (Err is.WrongLength)
    (order-length _ _ _ _ (law.lengths _) law.sized c.in_default.ensures.cases) (Err _) refl

pub settle-requires : goal.settle-requires
settle-requires g c = (
  g.met.U.FlatUnit.fits,
  (command_admitted (flat_unit g.U.FlatUnit.layout) _ c.args.c c.order.result c.order.ensures (Ok _) c.in_ok-t.ensures).1,
)

pub returns-in_err-t : goal.returns-in_err-t
returns-in_err-t g c =
    let M = flat_unit g.U.FlatUnit.layout in
    let cells = g.U.FlatUnit.cells in
    subst (λ s. Ran M (cells s) c.args.c c.from_residual.result (cells c.in-Some.image.now)) c.in-Some.ensures.cases.same
    (subst (λ r. Ran M (cells c.in-Some.image.now) c.args.c r (cells c.in-Some.image.now)) (sym (passed-on _ _ c.from_residual.ensures (λ y i. i)))
    (command_admitted M _ c.args.c c.order.result c.order.ensures (Err _) c.in_err-t.ensures))

pub returns : goal.returns
returns g c =
    let cells = g.U.FlatUnit.cells in
    subst (λ s. Ran (flat_unit g.U.FlatUnit.layout) (cells s) c.args.c c.settle.result (cells c.settle.new.image)) c.in-Some.ensures.cases.same
    ((command_admitted (flat_unit g.U.FlatUnit.layout) _ c.args.c c.order.result c.order.ensures (Ok _) c.in_ok-t.ensures).2 _ _ c.settle.ensures)
