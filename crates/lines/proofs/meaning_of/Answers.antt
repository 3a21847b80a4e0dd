-- In each arm the values go where the grammar's form hands them, by computation; where they are narrowed, those within their limits lose
-- nothing (`narrow_meaning`).
use mathlib.Core.Path.{ap, ◌∙◌}
use Rattle.std.specs.Prelude.{Some}
use Rattle.lines.specs.declared.Action.TheVariants.{Create, Delete, Allow, AllowSet, Withdraw, Drop, Lend, Recall, Shift, Sweep, Check}
use Rattle.lines.proofs.Turns.{narrow_meaning}
use Rattle.lines.proofs.meaning_of.Goals as goal

pub returns-in-Create : goal.returns-in-Create
returns-in-Create c =
    narrow_meaning Create _ _ c.in-Create.is c.lowest.ensures c.requires

pub returns-in-Delete : goal.returns-in-Delete
returns-in-Delete c =
    narrow_meaning Delete _ _ c.in-Delete.is c.lowest.ensures c.requires

pub returns-in-Allow : goal.returns-in-Allow
returns-in-Allow c =
    ap Some c.allow.ensures ∙ narrow_meaning Allow _ _ c.in-Allow.is c.lowest.ensures c.requires

pub returns-in-AllowSet : goal.returns-in-AllowSet
returns-in-AllowSet c =
    ap Some c.allow_set.ensures ∙ narrow_meaning AllowSet _ _ c.in-AllowSet.is c.lowest.ensures c.requires

pub returns-in-Withdraw : goal.returns-in-Withdraw
returns-in-Withdraw c =
    ap Some c.withdraw.ensures ∙ narrow_meaning Withdraw _ _ c.in-Withdraw.is c.lowest.ensures c.requires

pub returns-in-Drop : goal.returns-in-Drop
returns-in-Drop c =
    ap Some c.drop_depth.ensures ∙ narrow_meaning Drop _ _ c.in-Drop.is c.lowest.ensures c.requires

pub returns-in-Lend : goal.returns-in-Lend
returns-in-Lend c =
    ap Some c.lend.ensures ∙ narrow_meaning Lend _ _ c.in-Lend.is c.lowest.ensures c.requires

pub returns-in-Recall : goal.returns-in-Recall
returns-in-Recall c =
    ap Some c.recall.ensures ∙ narrow_meaning Recall _ _ c.in-Recall.is c.lowest.ensures c.requires

pub returns-in-Shift : goal.returns-in-Shift
returns-in-Shift c =
    narrow_meaning Shift _ _ c.in-Shift.is c.lowest.ensures c.requires

pub returns-in-Sweep : goal.returns-in-Sweep
returns-in-Sweep c =
    narrow_meaning Sweep _ _ c.in-Sweep.is c.lowest.ensures c.requires

pub returns-in-Check : goal.returns-in-Check
returns-in-Check c =
    ap Some c.ask.ensures ∙ narrow_meaning Check _ _ c.in-Check.is c.lowest.ensures c.requires
