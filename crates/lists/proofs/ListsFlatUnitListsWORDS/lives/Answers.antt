-- The bit is the item's, since the live set is word 0 (`word_bit`).
use mathlib.Core.Path.{sym, ap, ◌∙◌}
use Prim.Native.Nat.{◌%◌, ℕ}
use native.Mathlib.Omega.{arith}
use lib.ListN.{get_or}
use Rattle.bits.specs.Bits.{bit}
use Rattle.lists.proofs.InOrder.{word_bit}
use Rattle.lists.proofs.ListsFlatUnitListsWORDS.lives.Goals as goal

pub returns : goal.returns
returns c =
    c.has.ensures ∙ ap (λ (x : ℕ). bit (get_or c.args.image.now 0 0) (x % 64)) c.number.ensures
    ∙ sym (word_bit c.args.image.now c.args.i.0 0 (c.args.i.0 % 64) (omega arith) (omega arith))
