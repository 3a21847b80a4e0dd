-- The item's bit in the live set, and then an edit grant to its maker, are the image that a creation leaves (`rows-create`).
use Rattle.rows.proofs.Bytes.{rows-create}
use Rattle.rows.proofs.RowsFlatUnitRowsBYTES.put_item.Goals as goal

pub returns : goal.returns
returns c =
    rows-create c.args.image.now _ _ c.args.by.0 c.args.on.0 _ c.told-image c.requires.1
    c.edit.ensures c.insert.ensures
    c.put_grant.ensures
