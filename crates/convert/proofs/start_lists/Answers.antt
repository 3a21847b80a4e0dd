-- Words that are all 0 but for word 0, which has the live set, are the lists to come without any block (`lists_begin`).
use borrow.Author.Rules.{rules}
use Rattle.bits.proofs.Sweep.{swept-zero, zeroed}
use Rattle.convert.proofs.Turned.{lists_begin}
use Rattle.convert.proofs.start_lists.Goals as goal

pub returns : goal.returns
returns c =
    let zero = zeroed c.args.target.now c.clear.new.words c.clear.ensures in
    lists_begin c.args.source.now c.clear.new.words _ (search rules) (swept-zero c.args.target.now c.clear.new.words zero) c.eight.ensures
