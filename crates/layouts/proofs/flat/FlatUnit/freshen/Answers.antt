-- Refused by its length, the buffer stays (`fresh-length`); otherwise the unit has made the fresh image (`fresh_done`).
use mathlib.Core.Path.{sym, ◌∙◌}
use Rattle.layouts.proofs.Ends.{fresh-length, fresh_done}
use Rattle.layouts.proofs.flat.FlatUnit.freshen.Goals as goal

pub returns-in_default : goal.returns-in_default
returns-in_default g c =
    let law = g.met.Self.FlatUnit in
    fresh-length _ _ (λ e. c.in_default.ensures.cases (sym (law.lengths _) ∙ e ∙ law.sized))

pub returns : goal.returns
returns g c =
    let law = g.met.Self.FlatUnit in
    fresh_done _ _ _ (law.lengths _ ∙ c.in-Some.ensures.cases.long ∙ sym law.sized) c.start.ensures
