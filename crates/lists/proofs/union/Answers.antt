-- After k turns the word is the first k words ORed (`or_more`); at the end that is all of them.
use mathlib.Core.Path.{sym, ap, ◌∙◌}
use Prim.Native.Nat.{ℕ}
use borrow.Author.Rules.{rules}
use lib.Bits.{bit_or}
use lib.ListN.{get_or}
use Rattle.bits.proofs.Scan.{or-none, or_more}
use Rattle.lists.proofs.union.Goals as goal

pub loop-w-init : goal.loop-w-init
loop-w-init c = (search rules, sym (or-none _))

pub loop-w-preserved : goal.loop-w-preserved
loop-w-preserved c = (
  search rules,
  ap (λ (x : ℕ). bit_or x (get_or c.args.words.now c.loop-w.w-index 0)) c.loop-w.invariant.1
      ∙ sym (or_more c.loop-w.w-index _),
)
