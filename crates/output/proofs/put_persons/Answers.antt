-- No persons are no text (`persons-none`); of some, the first comes alone and the others with a comma before each (`persons_some`).
use Rattle.output.proofs.Written.{wrote_then, wrote_none, wrote_is, persons-none, persons_some}
use native.Mathlib.Omega.{arith}
use mathlib.Core.Path.{sym}
use Rattle.output.proofs.put_persons.Goals as goal

pub returns-in_default : goal.returns-in_default
returns-in_default c =
    (wrote_is (sym (persons-none c.args.via.now c.in_default.ensures.cases)) (wrote_none _ _), omega arith)

pub returns : goal.returns
returns c = (
  wrote_is (sym (persons_some c.in-Some.ensures.cases.0)) (wrote_then c.put_person-p.ensures.0 c.put_more.ensures.0),
  omega arith,
)
