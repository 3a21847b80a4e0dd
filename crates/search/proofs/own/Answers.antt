-- The chain is cleared; where the byte has no grant that is the answer, else the person comes first.
use mathlib.Core.Path.{sym, ap, ◌∙◌}
use Prim.Native.Nat.{ℕ}
use lib.ListN.{get_or}
use Rattle.delegation.specs.Search.{height}
use Rattle.search.proofs.Alone.{own_no}
use Rattle.search.proofs.own.Goals as goal

pub returns-then-value-eq0 : goal.returns-then-value-eq0
returns-then-value-eq0 c =
    own_no _ _ _ (sym (c.height_of-value.ensures.0 ∙ ap (λ (k : ℕ). height (get_or c.args.grants.now k 0)) c.number-place.ensures) ∙ c.if-value-eq0.true) c.clear.ensures
