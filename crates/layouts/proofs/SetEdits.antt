-- What allowset does to an image, and what code does to cells as that: one bit into a cell for each member (rows and the grants of a
-- chain unit), or every member into one word (lists).
use mathlib.Core.Path.{◌≡◌, sym, ap, ◌∙◌}
use mathlib.Core.Bool.{true, false, ◌&&◌, ◌||◌, or_comm, or-false}
use mathlib.Core.List.{List}
use Prim.Native.Nat.{ℕ, ◌+◌, ◌*◌, ◌/◌, ◌%◌, ◌^◌, ◌<◌}
use native.Mathlib.Omega.{arith}
use native.Mathlib.Nat.{div-lt_iff_lt-mul}
use borrow.Author.Tests.{eqb-true, eqb-false}
use lib.ListN.{length, get_or, length-set}
use lib.ListN.{set as set'}
use lib.Seq.{get_or-set_same, get_or-set_other}
use lib.Bits.{bit_or, or_lt}
use lib.Dec.{eqb, leb}
use Rattle.bits.specs.Sets.{any, any_below}
use Rattle.bits.specs.Bits.{bit}
use Rattle.bits.specs.Cells.{at}
use Rattle.bits.specs.Zeros.{with_bits, chosen}
use Rattle.model.specs.Commands.{members_of}
use Rattle.model.specs.Journal.{grant}
use Rattle.layouts.specs.Layouts.{Layout, live_in, grant_bit, allowed_set}
use Rattle.layouts.specs.Laws.{Laws}
use Rattle.bits.proofs.Sets.{iff, by_cases, fst, snd, both, eqb_self}
use Rattle.bits.proofs.Indexed.{some_intro, some_elim, some_ext}
use Rattle.bits.proofs.Bits.{bit-or}
use Rattle.bits.proofs.Marks.{Cells, cells-set}
use Rattle.bits.proofs.Members.{any-members}
use Rattle.bits.proofs.WithBits.{length-with_bits, at-with_bits, cells-with_bits, cell_place}
use Rattle.layouts.proofs.Layouts.{live-build, bit-at-build}
use Rattle.layouts.proofs.Edits.{build_is, shifted}

module _ (L : Layout) (W : Laws L) where
  -- ---- the image after an allowset: every place of a member, that item, right and depth has its bit, the rest is as it was
  module _ (s : List ℕ) (set on right depth : ℕ) where
    pub set-live : (i : ℕ) → leb i 63 ≡ true → live_in L (allowed_set L s set on right depth) i ≡ live_in L s i
    set-live i h = live-build L W (live_in L s) _ i h

    pub set-places : (k : ℕ) → k < L.size
        → grant_bit L (allowed_set L s set on right depth) k
        ≡ any (λ p. eqb (L.place (grant p on right depth)) k) (members_of set) || grant_bit L s k
    set-places k h = bit-at-build L W (live_in L s) _ k h

  -- ---- the cells that code writes
  module _ (s : List ℕ) (l : length s ≡ L.cells) (h : Cells L.width s) (set on right depth : ℕ) where
    -- a bit of the image is in a cell
    cell_in : (k : ℕ) → k < 64 + L.size → k / L.width < length s
    cell_in k b = rw l ((div-lt_iff_lt-mul W.wide).1 (omega (arith, W.fits)))

    -- the bit of a member's place, by its number in the image
    placed-places : (k : ℕ) → any_below 64 (λ p. bit set p && eqb (64 + k) (64 + L.place (grant p on right depth)))
        ≡ any (λ p. eqb (L.place (grant p on right depth)) k) (members_of set)
    placed-places k =
        some_ext 64 _ _ (λ p v. ap (λ x. bit set p && x) (shifted k (L.place (grant p on right depth))))
        ∙ sym (any-members 64 set (λ p. eqb (L.place (grant p on right depth)) k))

    -- none is in the live set
    no_item : (i : ℕ) → i < 64 → any_below 64 (λ p. bit set p && eqb i (64 + L.place (grant p on right depth))) ≡ false
    no_item i v =
        by_cases (any_below 64 (λ p. bit set p && eqb i (64 + L.place (grant p on right depth))))
        (λ t. let f = some_elim 64 (λ p. bit set p && eqb i (64 + L.place (grant p on right depth))) t in
        let q = eqb-true i _ (snd (bit set f.0) (eqb i (64 + L.place (grant f.0 on right depth))) f.2) in
        absurd (omega arith))
        (λ t. t)

    -- one bit of a cell for each member
    module _ (a step b : ℕ) (u : b < L.width)
        (e : (p : ℕ) → p < 64 → 64 + L.place (grant p on right depth) ≡ (a + step * p) * L.width + b) where
      -- bit k of the image is that of a member's place
      chosen-place : (k : ℕ) → chosen a step set (k / L.width) && eqb (k % L.width) b
          ≡ any_below 64 (λ p. bit set p && eqb k (64 + L.place (grant p on right depth)))
      unfolding chosen
      chosen-place k =
          iff _ _
          (λ t. let f = some_elim 64 _ (fst (any_below 64 (λ p. bit set p && eqb (k / L.width) (a + step * p))) (eqb (k % L.width) b) t) in
          let z = snd (any_below 64 (λ p. bit set p && eqb (k / L.width) (a + step * p))) (eqb (k % L.width) b) t in
          some_intro 64 _ f.0 f.1
          (both (fst (bit set f.0) _ f.2)
          (rw (e f.0 f.1) (sym (cell_place L.width (a + step * f.0) b u k) ∙ both (snd (bit set f.0) _ f.2) z))))
          (λ t. let f = some_elim 64 (λ p. bit set p && eqb k (64 + L.place (grant p on right depth))) t in
          let q = cell_place L.width (a + step * f.0) b u k
          ∙ (rw (e f.0 f.1) at (snd (bit set f.0) (eqb k (64 + L.place (grant f.0 on right depth))) f.2)) in
          both (some_intro 64 (λ p. bit set p && eqb (k / L.width) (a + step * p)) f.0 f.1
          (both (fst (bit set f.0) _ f.2) (fst (eqb (k / L.width) (a + step * f.0)) _ q)))
          (snd (eqb (k / L.width) (a + step * f.0)) _ q))

      pub allow-set-each : with_bits (chosen a step set) b s ≡ allowed_set L s set on right depth
      allow-set-each =
          build_is L W _ _ _ (length-with_bits (chosen a step set) b s ∙ l) (cells-with_bits (chosen a step set) b s L.width u h)
          (λ i v. at-with_bits (chosen a step set) b s L.width i (cell_in i (omega arith)) ∙ rw (chosen-place i, no_item i v) (or-false _))
          (λ k v. at-with_bits (chosen a step set) b s L.width (64 + k) (cell_in (64 + k) (omega arith))
          ∙ rw (chosen-place (64 + k)) (or_comm (grant_bit L s k) _ ∙ ap (λ x. x || grant_bit L s k) (placed-places k)))

    -- every member in one cell of 64 bits
    module _ (c : ℕ) (w : L.width ≡ 64) (e : (p : ℕ) → p < 64 → 64 + L.place (grant p on right depth) ≡ c * 64 + p) where
      word_place : (k : ℕ) → eqb (k / 64) c && bit set (k % 64)
          ≡ any_below 64 (λ p. bit set p && eqb k (64 + L.place (grant p on right depth)))
      word_place k =
          iff _ _
          (λ t. let v : k % 64 < 64 = omega arith in
          some_intro 64 (λ p. bit set p && eqb k (64 + L.place (grant p on right depth))) (k % 64) v
          (both (snd (eqb (k / 64) c) (bit set (k % 64)) t)
          (rw (e (k % 64) v) (sym (cell_place 64 c (k % 64) v k) ∙ both (fst (eqb (k / 64) c) (bit set (k % 64)) t) (eqb_self (k % 64))))))
          (λ t. let f = some_elim 64 (λ p. bit set p && eqb k (64 + L.place (grant p on right depth))) t in
          let q = cell_place 64 c f.0 f.1 k
          ∙ (rw (e f.0 f.1) at (snd (bit set f.0) (eqb k (64 + L.place (grant f.0 on right depth))) f.2)) in
          let z : k % 64 ≡ f.0 = eqb-true (k % 64) f.0 (snd (eqb (k / 64) c) _ q) in
          both (fst (eqb (k / 64) c) _ q) (rw z (fst (bit set f.0) _ f.2)))

      at_word : (k : ℕ) → c < length s
          → at 64 (set' s c (bit_or (get_or s c 0) set)) k ≡ at 64 s k || (eqb (k / 64) c && bit set (k % 64))
      unfolding at
      at_word k j =
          by_cases (eqb (k / 64) c)
          (λ t. let q : k / 64 ≡ c = eqb-true (k / 64) c t in
          rw (t, q, get_or-set_same s c (bit_or (get_or s c 0) set) 0 j) (bit-or (get_or s c 0) set (k % 64)))
          (λ t. rw (t, get_or-set_other s c (k / 64) (bit_or (get_or s c 0) set) 0 (eqb-false (k / 64) c t)) (sym (or-false _)))

      pub allow-set_word : c < length s → set < 2 ^ 64 → set' s c (bit_or (get_or s c 0) set) ≡ allowed_set L s set on right depth
      allow-set_word j m =
          build_is L W _ _ _ (length-set s c _ ∙ l) cells
          (λ i v. rw w (at_word i j ∙ rw (word_place i, no_item i v) (or-false (at 64 s i))))
          (λ k v. rw w (at_word (64 + k) j
          ∙ rw (word_place (64 + k)) (or_comm (at 64 s (64 + k)) _ ∙ ap (λ x. x || at 64 s (64 + k)) (placed-places k))))
        where
          cells : Cells L.width (set' s c (bit_or (get_or s c 0) set))
          cells = cells-set L.width W.wide s c _ h (rw w (or_lt 64 (get_or s c 0) set (rw w at (h c j)) m))
