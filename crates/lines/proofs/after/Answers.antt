-- The rest of the slice from the place on is what the word is looked for in (`rest-drop`, `pointwise-starts`); a word that stands there ends
-- within the slice, so that the place after it does not overflow.
use mathlib.Core.Path.{◌≡◌, refl, sym, ap, ◌∙◌}
use mathlib.Core.Bool.{true, false}
use lib.ListN.{drop}
use Rattle.lines.specs.Line.{starts_with}
use Rattle.lines.specs.Reader.{after_at}
use Rattle.lines.proofs.Line.{pointwise-starts, rest-drop}
use Rattle.lines.proofs.after.Goals as goal

pub returns-in_err-strip_prefix : goal.returns-in_err-strip_prefix
unfolding after_at
returns-in_err-strip_prefix c =
    let r = rest-drop c.args.s.now c.args.at _ _ _ c.get.ensures.lookup refl c.unwrap_or.ensures in
    let q : starts_with c.args.w.now (drop c.args.at c.args.s.now) ≡ false =
    ap (starts_with c.args.w.now) (sym r) ∙ sym (pointwise-starts c.args.w.now c.unwrap_or.result.now) ∙ c.in_err-strip_prefix.ensures.cases in
    rw (c.from_residual.ensures, q)

pub returns : goal.returns
unfolding after_at
returns c =
    let r = rest-drop c.args.s.now c.args.at _ _ _ c.get.ensures.lookup refl c.unwrap_or.ensures in
    let q : starts_with c.args.w.now (drop c.args.at c.args.s.now) ≡ true =
    ap (starts_with c.args.w.now) (sym r) ∙ sym (pointwise-starts c.args.w.now c.unwrap_or.result.now) ∙ c.in_ok-strip_prefix.ensures.cases.0 in
    rw q
