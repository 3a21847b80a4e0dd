-- That rows name living items only is two tests, of the items and of the persons (`two_parts`): the first that fails says no, else the
-- second decides. Eight rows eight times are all 64 (`below_nested`).
use mathlib.Core.Path.{◌≡◌, refl, sym, ◌∙◌}
use Prim.Native.Nat.{◌+◌, ◌*◌}
use Rattle.std.proofs.Common.{rules}
use Rattle.std.proofs.lemmas.Iterator.{YieldsList-from_range}
use Rattle.std.proofs.lemmas.Iterator.Search.{all_from_yields_List}
use Rattle.bits.specs.Sets.{all_below}
use Rattle.bits.proofs.Chains.{all-range}
use Rattle.bits.proofs.Indexed.{below_nested}
use Rattle.layouts.specs.Layouts.{rows}
use Rattle.layouts.specs.Order.{items_ok, persons_ok}
use Rattle.layouts.proofs.Order.{two_parts}
use Rattle.rows.proofs.scan.rows_ok.Goals as goal

pub returns-else-all : goal.returns-else-all
returns-else-all c =
    let s = c.args.image.now in
    let items : c.all.result ≡ all_below 64 (items_ok rows s 512) =
    all_from_yields_List (λ k. all_below 8 (λ j. items_ok rows s 512 (8 * k + j))) _ _ _ c.all.ensures.ran
    (YieldsList-from_range 0 8 8 refl refl) (λ x b q k. search rules)
    ∙ all-range _ 8 ∙ sym (below_nested 8 8 (items_ok rows s 512)) in
    c.if-all.false ∙ sym (two_parts rows s 512 64 ∙ rw (sym items ∙ c.if-all.false))

pub returns-then-all : goal.returns-then-all
returns-then-all c =
    let s = c.args.image.now in
    let items : c.all.result ≡ all_below 64 (items_ok rows s 512) =
    all_from_yields_List (λ k. all_below 8 (λ j. items_ok rows s 512 (8 * k + j))) _ _ _ c.all.ensures.ran
    (YieldsList-from_range 0 8 8 refl refl) (λ x b q k. search rules)
    ∙ all-range _ 8 ∙ sym (below_nested 8 8 (items_ok rows s 512)) in
    let persons : c.all-then-all.result ≡ all_below 64 (persons_ok rows s 512) =
    all_from_yields_List (persons_ok rows s 512) _ _ _ c.all-then-all.ensures.ran (YieldsList-from_range 0 64 64 refl refl)
    (λ x b q k. search rules)
    ∙ all-range _ 64 in
    persons ∙ sym (two_parts rows s 512 64 ∙ rw (sym items ∙ c.if-all.true))
