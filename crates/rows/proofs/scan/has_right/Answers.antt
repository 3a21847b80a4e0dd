-- After k turns the byte is the first k bytes of the row ORed (`or_step`); at the end that is all of them.
use mathlib.Core.Path.{refl, sym}
use Prim.Native.Nat.{ℕ}
use borrow.Author.Rules.{rules}
use lib.ListN.{get_or}
use Rattle.bits.proofs.Scan.{or-none, or_step}
use Rattle.rows.proofs.scan.has_right.Goals as goal

pub loop-byte-init : goal.loop-byte-init
loop-byte-init c = (search rules, sym (or-none _))

pub loop-byte-preserved : goal.loop-byte-preserved
loop-byte-preserved c =
    (search rules, or_step c.loop-byte.bits _ c.loop-byte.byte-index (λ (k : ℕ). get_or c.args.row.now k 0) c.loop-byte.invariant.1 refl)
