-- An image in order, block by block: what a scan tests, in any layout.
use mathlib.Core.Path.{◌≡◌, refl, ap, sym, ◌∙◌}
use mathlib.Core.Bool.{Bool, not, ◌&&◌, ◌||◌, true, false, and_comm}
use mathlib.Core.List.{List}
use Prim.Native.Nat.{ℕ, ◌+◌, ◌*◌}
use borrow.Author.Tests.{not-true, not-false}
use Rattle.bits.specs.Sets.{all_below}
use Rattle.layouts.specs.Layouts.{Layout, live_in, grant_bit, is_in_order}
use Rattle.bits.proofs.Indexed.{below_ext, below-and, below_nested}
use Rattle.layouts.specs.Order.{names_live, names_item, names_person, block_ok, items_ok, persons_ok}

module _ (L : Layout) (s : List ℕ) where
  pub two_parts : (n m : ℕ) → all_below m (block_ok L s n) ≡ all_below m (items_ok L s n) && all_below m (persons_ok L s n)
  unfolding block_ok items_ok persons_ok
  two_parts n m =
      below_ext m _ _
      (λ i u. below_ext n _ _ (λ j v. apart (grant_bit L s (n * i + j)) (live_in L s (L.person (n * i + j)))
      (live_in L s (L.item (n * i + j))))
      ∙ below-and n (λ j. names_item L s (n * i + j)) (λ j. names_person L s (n * i + j)))
      ∙ below-and m (items_ok L s n) (persons_ok L s n)
    where
      apart : (b p i : Bool) → not b || (p && i) ≡ (not b || i) && (not b || p)
      apart true p i = and_comm p i
      apart false p i = refl

  pub order_blocks : (n m : ℕ) → n * m ≡ L.size → is_in_order L s ≡ live_in L s 0 && all_below m (block_ok L s n)
  unfolding is_in_order block_ok
  order_blocks n m e = rw (← e) (ap (λ x. live_in L s 0 && x) (below_nested n m (names_live L s)))

  -- what code finds: the root item's bit, b, then m blocks of n places
  module _ (n m : ℕ) (f : n * m ≡ L.size) (b : Bool) (e : b ≡ live_in L s 0) where
    by_blocks : is_in_order L s ≡ b && all_below m (block_ok L s n)
    by_blocks = order_blocks n m f ∙ ap (λ x. x && all_below m (block_ok L s n)) (sym e)

    pub order-no : not b ≡ true → false ≡ is_in_order L s
    order-no t = sym (by_blocks ∙ rw (not-true b t))

    pub order-yes : (x : Bool) → not b ≡ false → x ≡ all_below m (block_ok L s n) → x ≡ is_in_order L s
    order-yes x t q = q ∙ sym (by_blocks ∙ rw (not-false b t))
