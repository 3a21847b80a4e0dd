-- The item's bit in the live set and then an edit grant of depth 0 are the image that a creation leaves (`grants-create`).
use Rattle.grants.proofs.Bytes.{grants-create}
use Rattle.grants.proofs.put_item.Goals as goal

pub returns : goal.returns
returns c =
    grants-create c.args.grants.now _ _ c.args.by.0 c.args.on.0 _ _ c.requires.0 c.requires.2
    c.edit.ensures c.zero.ensures
    c.insert.ensures c.put_grant.ensures
