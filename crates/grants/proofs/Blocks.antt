-- A scan of an item's block, as what it tests: the block names living items only. The byte of right r and person p is byte p + 64 * r
-- of the block.
use mathlib.Core.Path.{◌≡◌, refl, sym, ap, ap₂, ◌∙◌}
use mathlib.Core.Bool.{Bool, not, ◌&&◌, ◌||◌, and_comm}
use mathlib.Core.List.{List}
use Prim.Native.Nat.{ℕ, ◌+◌, ◌-◌, ◌*◌, ◌/◌, ◌%◌, ◌^◌, ◌<◌}
use native.Mathlib.Omega.{arith}
use lib.ListN.{take, drop, get_or}
use lib.Seq.{get_or-take, get_or-drop}
use lib.Bits.{bit_and, bit_or}
use lib.Dec.{eqb}
use Rattle.bits.specs.Sets.{all_below}
use Rattle.bits.specs.Bits.{bit}
use Rattle.bits.specs.Cells.{at}
use Rattle.layouts.specs.Live.{masks_of}
use Rattle.layouts.specs.Layouts.{grant_bytes, is_in_order}
use Rattle.bits.proofs.Indexed.{below_ext, below_nested, below_swap}
use Rattle.bits.proofs.Scan.{mask_both, cell_named}
use Rattle.layouts.proofs.Masks.{masks_at}
use Rattle.layouts.specs.Order.{names_live, block_ok}
use Rattle.layouts.proofs.Order.{order_blocks}
use Rattle.bits.proofs.Marks.{at_cell}

module _ (s : List ℕ) (on : ℕ) (w : on < 64) (h : (i : ℕ) → get_or s i 0 < 2 ^ 8) where
  abbrev byte : ℕ → ℕ → ℕ
  byte p r = get_or s (8 + 512 * on + (p + 64 * r)) 0

  -- the bytes of a person, one for each right, are 0, or the person and the item live
  abbrev person_ok : ℕ → Bool
  person_ok p = all_below 8 (λ r. eqb (byte p r) 0 || (at 8 s on && at 8 s p))

  -- the part that is lent
  abbrev block : List ℕ
  block = take (8 + 512 * on + 512 - (8 + 512 * on)) (drop (8 + 512 * on) s)

  -- what the code tests, with the masks d
  shown_is : (d : List ℕ) → d ≡ masks_of s
      → all_below 64 (λ p. all_below 8 (λ r. eqb (bit_and (get_or block (p + 64 * r) 0) (bit_or (get_or d on 0) (get_or d p 0))) 0))
      ≡ all_below 64 person_ok
  shown_is d e =
      below_ext 64 _ person_ok
      (λ p u. below_ext 8 _ _
      (λ r v. let part = get_or-take (8 + 512 * on + 512 - (8 + 512 * on)) (drop (8 + 512 * on) s) (p + 64 * r) 0 (omega arith)
      ∙ get_or-drop (8 + 512 * on) s (p + 64 * r) 0 in
      rw (part, masks_at s d e on w, masks_at s d e p u) (mask_both 8 (byte p r) (at 8 s on) (at 8 s p) (h _))))

  block_bytes : block_ok grant_bytes s 4096 on ≡ all_below 64 person_ok
  unfolding block_ok grant_bytes
  block_bytes =
      below_nested 8 512 (λ j. names_live grant_bytes s (4096 * on + j))
      ∙ below_nested 64 8 (λ c. all_below 8 (λ d. names_live grant_bytes s (4096 * on + (8 * c + d))))
      ∙ below_swap 8 64 (λ r p. all_below 8 (λ d. names_live grant_bytes s (4096 * on + (8 * (64 * r + p) + d))))
      ∙ below_ext 64 _ _
      (λ p u. below_ext 8 _ _
      (λ r v. below_ext 8 _ _
      (λ d z. ap₂ (λ x y. not x || y)
      (ap (at 8 s) (let e : 64 + (4096 * on + (8 * (64 * r + p) + d)) ≡ (8 + 512 * on + (p + 64 * r)) * 8 + d = omega arith in e)
      ∙ at_cell 8 (omega arith) s _ d z)
      (ap₂ ◌&&◌ (ap (at 8 s) (let e : (4096 * on + (8 * (64 * r + p) + d)) / 8 % 64 ≡ p = omega arith in e))
      (ap (at 8 s) (let e : (4096 * on + (8 * (64 * r + p) + d)) / 4096 ≡ on = omega arith in e))
      ∙ and_comm (at 8 s p) (at 8 s on)))
      ∙ cell_named 8 (byte p r) (at 8 s on && at 8 s p) (h _)))

  pub item_passes : (x : Bool) (d : List ℕ) → d ≡ masks_of s
      → x ≡ all_below 64 (λ p. all_below 8 (λ r. eqb (bit_and (get_or block (p + 64 * r) 0) (bit_or (get_or d on 0) (get_or d p 0))) 0))
      → x ≡ block_ok grant_bytes s 4096 on
  item_passes x d e q = q ∙ shown_is d e ∙ sym block_bytes

-- the first byte of the live set, then block by block
pub order_is : (s : List ℕ) → is_in_order grant_bytes s ≡ bit (get_or s 0 0) 0 && all_below 64 (block_ok grant_bytes s 4096)
unfolding grant_bytes at
order_is s = order_blocks grant_bytes s 4096 64 refl
