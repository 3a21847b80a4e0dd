-- A run begins with fresh units: the buffers have their lengths by their types, so making them fresh is not refused.
use borrow.Author.Rules.{rules}
use Rattle.reader.specs.Replies.{units_in}
use Rattle.reader.proofs.Start.{started}
use Rattle.program.proofs.Parts.{ran_fresh}
use Rattle.program.proofs.run.Goals as goal

pub returns : goal.returns
returns g c =
    let units = units_in c.args.list.now c.args.row.now c.args.grants.now c.args.loans.now in
    ran_fresh (started units _ _ (search rules, search rules, search rules, search rules) c.fresh.ensures)
    c.read_all.ensures
