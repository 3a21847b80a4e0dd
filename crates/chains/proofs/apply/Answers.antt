-- In each arm both images are as the verb, which the match has told, leaves them, and the count is that verb's: 0 but for a sweep (`arm`).
-- A recall finds the loans image in order (`loans-ordered`), so do a withdraw and a drop (`ending`), and so does a loan that the table let
-- through, with room in it, since row 10 does not hold (`room`). A sweep finds the shift within its limit (`counted`).
use borrow.Author.Rules.{rules}
use native.Mathlib.Omega.{arith}
use Rattle.model.specs.Commands.{raw_of}
use Rattle.delegation.specs.Images.{images}
use Rattle.chains.proofs.Arms.{loans-ordered, room}
use Rattle.chains.proofs.Ending.{ending}
use Rattle.chains.proofs.Judging.{counted}
use Rattle.chains.proofs.apply.Goals as goal

pub drop_grants-requires : goal.drop_grants-requires
drop_grants-requires c =
    (ending c.args.grants.now c.args.loans.now (raw_of c.args.t) (search rules) c.requires, c.requires.ready.ordered)

pub insert-requires : goal.insert-requires
insert-requires c =
    room c.args.grants.now c.args.loans.now (raw_of c.args.t) _ (search rules) c.loan_word.ensures
    c.in-Lend.is c.requires

pub remove-requires : goal.remove-requires
remove-requires c =
    loans-ordered c.args.grants.now c.args.loans.now (raw_of c.args.t) (search rules) c.requires

pub drop_grant-requires : goal.drop_grant-requires
drop_grant-requires c = (
  ending c.args.grants.now c.args.loans.now (raw_of c.args.t) (search rules) c.requires,
  omega (arith, c.requires.ready.ranged.depth),
)

pub end_past-requires : goal.end_past-requires
end_past-requires c =
    (counted (images c.args.grants.now c.args.loans.now) c.requires.ready.ordered).0
