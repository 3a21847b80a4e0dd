-- After n turns the bits gathered are 0 exactly where the lists of the first n items are in order (`scan_more`); at the end n is 64.
use mathlib.Core.Path.{sym}
use borrow.Author.Rules.{rules}
use Rattle.bits.proofs.Indexed.{below_none}
use Rattle.bits.proofs.Scan.{scan_more}
use Rattle.lists.proofs.items_ok.Goals as goal

pub loop-on-init : goal.loop-on-init
loop-on-init c = (search rules, sym (below_none _))

pub loop-on-preserved : goal.loop-on-preserved
loop-on-preserved c = (
  search rules,
  scan_more c.loop-on.bad c.misplaced-bad.result c.loop-on.on _ c.loop-on.invariant.1 c.misplaced-bad.ensures,
)
