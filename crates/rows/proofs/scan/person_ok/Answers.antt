-- By the person's mask: of one who lives any row is good (`person-lives`), of a dead one only a row without a right (`person_dead`).
use mathlib.Core.Path.{◌∙◌}
use native.Mathlib.Omega.{arith}
use borrow.Author.Tests.{eq-eqb}
use Rattle.rows.proofs.Scans.{person-lives, person_dead}
use Rattle.rows.proofs.scan.person_ok.Goals as goal

pub returns-then-masks-who-eq0 : goal.returns-then-masks-who-eq0
returns-then-masks-who-eq0 c =
    eq-eqb _ 0 c.if-masks-who-eq0.true
    ∙ person-lives c.args.image.now (λ i. omega (arith, c.fits-image i)) c.args.who c.told-image c.requires.0 c.args.masks.now c.requires.1
    c.if-masks-who-eq0.true

pub returns-else-masks-who-eq0 : goal.returns-else-masks-who-eq0
returns-else-masks-who-eq0 c =
    person_dead c.args.image.now (λ i. omega (arith, c.fits-image i)) c.args.who c.told-image c.requires.0 c.args.masks.now c.requires.1 _
    c.if-masks-who-eq0.false c.holds_any.ensures
