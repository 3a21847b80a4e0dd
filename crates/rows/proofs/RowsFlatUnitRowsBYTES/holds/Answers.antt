use Rattle.rows.proofs.Bytes.{rows-held}
use Rattle.rows.proofs.RowsFlatUnitRowsBYTES.holds.Goals as goal

pub returns : goal.returns
returns c =
    cc (rows-held c.args.image.now c.args.who.0 c.args.on.0 c.args.right.0 c.requires.2)
