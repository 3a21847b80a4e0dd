-- An entry of 0 has no chain. Another is at most 8, so one below it is a depth (`depth_read`).
use Rattle.std.proofs.Common.{rules}
use Rattle.std.specs.Prelude.{◌≡◌, Option, Some, None, ◌+◌, ◌-◌}
use mathlib.Core.Path.{sym, ap, ◌∙◌}
use native.Mathlib.Omega.{arith}
use borrow.Author.Tests.{eq-eqb, ne_eqb}
use Rattle.model.specs.Answers.{found_said}
use Rattle.model.specs.declared.BestChain.{BestChain}
use Rattle.model.proofs.Commands.{depth_read}
use Rattle.search.proofs.said.Goals as goal

pub returns-in_err-below : goal.returns-in_err-below
unfolding found_said
returns-in_err-below c =
    let z : c.args.e.value ≡ 0 = omega (arith, c.in_err-below.ensures) in
    let r : c.from_residual.result ≡ None = search rules in
    r ∙ sym (rw (eq-eqb _ _ z))

pub returns : goal.returns
unfolding found_said
returns c =
    let b : c.args.e.value ≡ c.in_ok-below.below + 1 = omega (arith, c.in_ok-below.ensures) in
    let d : c.in_ok-depth.depth ≡ record { 0 = c.in_ok-below.below } =
    cc (c.in_ok-depth.ensures, depth_read c.in_ok-below.below (omega (arith, b, c.requires.0))) in
    let n : c.in_ok-below.below ≡ c.args.e.value - 1 = omega (arith, b) in
    let f : ◌≡◌ {A = Option BestChain} (Some (record { depth = c.in_ok-depth.depth; persons = c.args.e.at + 1 }))
    (Some (record { depth = record { 0 = c.args.e.value - 1 }; persons = c.args.e.at + 1 })) =
    (λ j. Some (record { depth = (d ∙ ap (λ k. record { 0 = k }) n) j; persons = c.args.e.at + 1 })) in
    f ∙ sym (rw (ne_eqb c.args.e.value 0 (λ z. omega (arith, b, z))))
