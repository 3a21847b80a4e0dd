-- Fewer than 16 bytes from the place on are no set (`set-none`); the 16 bytes there are the part that `set_of` reads.
use native.Mathlib.Omega.{arith}
use mathlib.Core.Path.{ap, ◌∙◌}
use mathlib.Core.Logic.{⊎_elim}
use lib.ListN.{length, length-drop}
use Rattle.lines.proofs.Line.{part-drop}
use Rattle.lines.proofs.Hexadecimal.{set-none}
use Rattle.lines.proofs.read_set.Goals as goal

pub returns-in_err-get : goal.returns-in_err-get
returns-in_err-get c =
    c.from_residual.ensures ∙ set-none c.args.s.now c.args.at (⊎_elim (λ h. omega arith) (λ h. omega arith) c.in_err-get.ensures.lookup.0)

pub returns-in_err-ds : goal.returns-in_err-ds
returns-in_err-ds c =
    let r = part-drop c.args.s.now c.args.at c.in_ok-get.ensures.lookup.0.2 in
    c.from_residual-in_err-ds.ensures
    ∙ set-none c.args.s.now c.args.at
    (⊎_elim (λ h. omega arith) (λ h. omega (arith, ap length r, length-drop c.args.at c.args.s.now)) c.in_err-ds.ensures.lookup.0)
