use Rattle.layouts.proofs.Ends.{order-length, inspected}
use Rattle.layouts.proofs.flat.FlatUnit.inspect.Goals as goal

pub returns-in_default : goal.returns-in_default
returns-in_default g c =
    let law = g.met.Self.FlatUnit in
    inspected _ _ _ (order-length _ _ _ _ (law.lengths _) law.sized c.in_default.ensures.cases)

pub returns : goal.returns
returns g c = inspected g.Self.FlatUnit.layout _ _ (rw c.in-Some.ensures.cases.same at c.order.ensures)
