-- Each row above the one that refuses lets the command through, so it doesn't apply (`passes`, `below`); the one that refuses does
-- (`stops`, `row-is`), and its refusal has its number.
use mathlib.Core.Path.{◌≡◌, refl, sym, ap, ◌∙◌}
use Rattle.std.proofs.Common.{rules}
use Rattle.std.specs.Prelude.{Err, ◌&&◌}
use Rattle.model.specs.Answers.{knows}
use Rattle.model.proofs.Answers.{passes, stops, below, row-is, last-row}
use Rattle.model.proofs.judge.Goals as goal

pub returns-in_err-row : goal.returns-in_err-row
returns-in_err-row c =
    let e : c.from_residual.result ≡ Err c.in_err-row.field-0.0 = search rules in
    let h = stops _ _ _ c.in_err-row.ensures in
    row-is _ _ _ _ _ _ (ap (λ x. knows c.args.t.verb 14 && x) (sym c.is_empty.ensures) ∙ h.0, h.1) e refl

pub returns-in_err-refuse : goal.returns-in_err-refuse
returns-in_err-refuse c =
    let e : c.from_residual-in_err-refuse.result ≡ Err c.in_err-refuse.field-0.0 = search rules in
    below _ _ _ _ (ap (λ x. knows c.args.t.verb 14 && x) (sym c.is_empty.ensures) ∙ passes _ _ _ c.in_ok-row.ensures) (row-is _ _ _ _ _ _ (stops _ _ _ c.in_err-refuse.ensures) e refl)

pub returns-in_err-row-2 : goal.returns-in_err-row-2
returns-in_err-row-2 c =
    let e : c.from_residual-in_err-row-2.result ≡ Err c.in_err-row-2.field-0.0 = search rules in
    below _ _ _ _ (ap (λ x. knows c.args.t.verb 14 && x) (sym c.is_empty.ensures) ∙ passes _ _ _ c.in_ok-row.ensures) (below _ _ _ _ (passes _ _ _ c.in_ok-refuse.ensures) (row-is _ _ _ _ _ _ (stops _ _ _ c.in_err-row-2.ensures) e refl))

pub returns-in_err-row-3 : goal.returns-in_err-row-3
returns-in_err-row-3 c =
    let e : c.from_residual-in_err-row-3.result ≡ Err c.in_err-row-3.field-0.0 = search rules in
    below _ _ _ _ (ap (λ x. knows c.args.t.verb 14 && x) (sym c.is_empty.ensures) ∙ passes _ _ _ c.in_ok-row.ensures) (below _ _ _ _ (passes _ _ _ c.in_ok-refuse.ensures) (below _ _ _ _ (passes _ _ _ c.in_ok-row-2.ensures) (row-is _ _ _ _ _ _ (stops _ _ _ c.in_err-row-3.ensures) e refl)))

pub returns-in_err-row-4 : goal.returns-in_err-row-4
returns-in_err-row-4 c =
    let e : c.from_residual-in_err-row-4.result ≡ Err c.in_err-row-4.field-0.0 = search rules in
    below _ _ _ _ (ap (λ x. knows c.args.t.verb 14 && x) (sym c.is_empty.ensures) ∙ passes _ _ _ c.in_ok-row.ensures) (below _ _ _ _ (passes _ _ _ c.in_ok-refuse.ensures) (below _ _ _ _ (passes _ _ _ c.in_ok-row-2.ensures) (below _ _ _ _ (passes _ _ _ c.in_ok-row-3.ensures) (row-is _ _ _ _ _ _ (stops _ _ _ c.in_err-row-4.ensures) e refl))))

pub returns-in_err-row-5 : goal.returns-in_err-row-5
returns-in_err-row-5 c =
    let e : c.from_residual-in_err-row-5.result ≡ Err c.in_err-row-5.field-0.0 = search rules in
    below _ _ _ _ (ap (λ x. knows c.args.t.verb 14 && x) (sym c.is_empty.ensures) ∙ passes _ _ _ c.in_ok-row.ensures) (below _ _ _ _ (passes _ _ _ c.in_ok-refuse.ensures) (below _ _ _ _ (passes _ _ _ c.in_ok-row-2.ensures) (below _ _ _ _ (passes _ _ _ c.in_ok-row-3.ensures) (below _ _ _ _ (passes _ _ _ c.in_ok-row-4.ensures) (row-is _ _ _ _ _ _ (stops _ _ _ c.in_err-row-5.ensures) e refl)))))

pub returns-in_err-row-6 : goal.returns-in_err-row-6
returns-in_err-row-6 c =
    let e : c.from_residual-in_err-row-6.result ≡ Err c.in_err-row-6.field-0.0 = search rules in
    below _ _ _ _ (ap (λ x. knows c.args.t.verb 14 && x) (sym c.is_empty.ensures) ∙ passes _ _ _ c.in_ok-row.ensures) (below _ _ _ _ (passes _ _ _ c.in_ok-refuse.ensures) (below _ _ _ _ (passes _ _ _ c.in_ok-row-2.ensures) (below _ _ _ _ (passes _ _ _ c.in_ok-row-3.ensures) (below _ _ _ _ (passes _ _ _ c.in_ok-row-4.ensures) (below _ _ _ _ (passes _ _ _ c.in_ok-row-5.ensures) (row-is _ _ _ _ _ _ (stops _ _ _ c.in_err-row-6.ensures) e refl))))))

pub returns-in_err-row-7 : goal.returns-in_err-row-7
returns-in_err-row-7 c =
    let e : c.from_residual-in_err-row-7.result ≡ Err c.in_err-row-7.field-0.0 = search rules in
    below _ _ _ _ (ap (λ x. knows c.args.t.verb 14 && x) (sym c.is_empty.ensures) ∙ passes _ _ _ c.in_ok-row.ensures) (below _ _ _ _ (passes _ _ _ c.in_ok-refuse.ensures) (below _ _ _ _ (passes _ _ _ c.in_ok-row-2.ensures) (below _ _ _ _ (passes _ _ _ c.in_ok-row-3.ensures) (below _ _ _ _ (passes _ _ _ c.in_ok-row-4.ensures) (below _ _ _ _ (passes _ _ _ c.in_ok-row-5.ensures) (below _ _ _ _ (passes _ _ _ c.in_ok-row-6.ensures) (row-is _ _ _ _ _ _ (stops _ _ _ c.in_err-row-7.ensures) e refl)))))))

pub returns-in_err-row-8 : goal.returns-in_err-row-8
returns-in_err-row-8 c =
    let e : c.from_residual-in_err-row-8.result ≡ Err c.in_err-row-8.field-0.0 = search rules in
    below _ _ _ _ (ap (λ x. knows c.args.t.verb 14 && x) (sym c.is_empty.ensures) ∙ passes _ _ _ c.in_ok-row.ensures) (below _ _ _ _ (passes _ _ _ c.in_ok-refuse.ensures) (below _ _ _ _ (passes _ _ _ c.in_ok-row-2.ensures) (below _ _ _ _ (passes _ _ _ c.in_ok-row-3.ensures) (below _ _ _ _ (passes _ _ _ c.in_ok-row-4.ensures) (below _ _ _ _ (passes _ _ _ c.in_ok-row-5.ensures) (below _ _ _ _ (passes _ _ _ c.in_ok-row-6.ensures) (below _ _ _ _ (passes _ _ _ c.in_ok-row-7.ensures) (row-is _ _ _ _ _ _ (stops _ _ _ c.in_err-row-8.ensures) e refl))))))))

pub returns : goal.returns
returns c =
    below _ _ _ _ (ap (λ x. knows c.args.t.verb 14 && x) (sym c.is_empty.ensures) ∙ passes _ _ _ c.in_ok-row.ensures) (below _ _ _ _ (passes _ _ _ c.in_ok-refuse.ensures) (below _ _ _ _ (passes _ _ _ c.in_ok-row-2.ensures) (below _ _ _ _ (passes _ _ _ c.in_ok-row-3.ensures) (below _ _ _ _ (passes _ _ _ c.in_ok-row-4.ensures) (below _ _ _ _ (passes _ _ _ c.in_ok-row-5.ensures) (below _ _ _ _ (passes _ _ _ c.in_ok-row-6.ensures) (below _ _ _ _ (passes _ _ _ c.in_ok-row-7.ensures) (below _ _ _ _ (passes _ _ _ c.in_ok-row-8.ensures) (c.row-9.ensures ∙ last-row _ _ _ refl)))))))))
