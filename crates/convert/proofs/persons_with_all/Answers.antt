-- The fold of the eight lists of the item has the persons of each (`full_fold_all`).
use mathlib.Core.Path.{◌∙◌}
use Prim.Native.Nat.{ℕ, ◌+◌, ◌-◌, ◌*◌}
use native.Mathlib.Omega.{arith}
use borrow.Author.Rules.{rules}
use lib.ListN.{get_or, take, drop, length-take, length-drop}
use lib.Seq.{get_or-take, get_or-drop}
use lib.Bits.{bit_and}
use Rattle.std.proofs.lemmas.Iterator.{YieldsList-from_slice}
use Rattle.std.proofs.lemmas.Iterator.Consumers.{fold_from_yields_List}
use Rattle.convert.specs.Blocks.{full_on}
use Rattle.convert.proofs.Turned.{full_fold_all}
use Rattle.convert.proofs.persons_with_all.Goals as goal

pub returns : goal.returns
unfolding full_on
returns c =
    let s = c.args.source.now in
    let a = 1 + 8 * c.args.on in
    fold_from_yields_List {all = take (a + 8 - a) (drop a s)} _ bit_and 18446744073709551615 c.fold.result c.fold.ensures.ran (YieldsList-from_slice _ (cc)) (λ x y b q k. search rules)
    ∙ full_fold_all (take (a + 8 - a) (drop a s)) (λ (r : ℕ). get_or s (a + r) 0) (simp (length-take, length-drop) (omega arith))
    (λ k l. get_or-take (a + 8 - a) (drop a s) k 0 (omega arith) ∙ get_or-drop a s k 0)
