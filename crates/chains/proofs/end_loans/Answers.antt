-- Where there was no grant, or there still is one, no last grant ended and all loans stay (`all_stay`); they stay too where the person made
-- none there (`none_theirs`); else the pass ends those (`theirs_end`).
use borrow.Author.Tests.{not-false}
use mathlib.Core.Path.{sym, ap, ap₂, ◌∙◌}
use mathlib.Core.Bool.{Bool, not, ◌&&◌}
use Rattle.layouts.specs.Layouts.{grant_bytes, held}
use Rattle.chains.proofs.Ending.{all_stay, none_theirs}
use Rattle.chains.proofs.end_loans.Goals as goal

pub returns-then-not-had : goal.returns-then-not-had
returns-then-not-had c =
    all_stay c.args.loans.now c.requires.loans _ _ _ _
    (ap (λ b. b && not (held grant_bytes c.args.grants.now c.args.to.0 c.args.on.0 c.args.right.0)) c.if-not-had.true)

pub returns-then-holds : goal.returns-then-holds
returns-then-holds c =
    all_stay c.args.loans.now c.requires.loans _ _ _ _
    (ap₂ (λ (x y : Bool). x && not y) c.if-not-had.false
    (sym c.holds.ensures ∙ c.if-holds.true))

pub returns-then-not-ends : goal.returns-then-not-ends
returns-then-not-ends c =
    none_theirs c.args.loans.now c.requires.loans _ _ _ _
    (ap₂ (λ (x y : Bool). x && not y) c.if-not-had.false
    (sym c.holds.ensures ∙ c.if-holds.false))
    (not-false _ (sym c.ends.ensures ∙ c.if-not-ends.true))
