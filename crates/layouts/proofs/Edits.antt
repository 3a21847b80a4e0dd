-- What code does to cells, as what a command does to an image, for any layout with its laws.
use mathlib.Core.Path.{◌≡◌, refl, sym, ap, ◌∙◌}
use mathlib.Core.Bool.{Bool, true, false, not, ◌&&◌, ◌||◌, and-true, or-false, or_comm, false≢true, and-false}
use mathlib.Core.List.{List}
use Prim.Native.Nat.{ℕ, ◌+◌, ◌-◌, ◌*◌, ◌/◌, ◌%◌, ◌^◌, ◌<◌}
use native.Mathlib.Nat.{div-lt_iff_lt-mul}
use native.Mathlib.Omega.{arith}
use borrow.Author.Tests.{eqb-true, eq-eqb, ne_eqb, ltb-true, ltb-false, le-leb}
use lib.ListN.{length, get_or, set, length-set}
use lib.Seq.{get_or-set_same, get_or-set_other}
use lib.Arith.{digits_div}
use lib.Dec.{eqb, ltb, leb}
use Rattle.bits.specs.Sets.{any}
use Rattle.bits.specs.Bits.{bit, with_bit}
use Rattle.model.specs.Journal.{grant}
use Rattle.bits.specs.Cells.{at}
use Rattle.model.specs.Commands.{depths}
use Rattle.layouts.specs.Layouts.{Layout, lists, rows, live_in, grant_bit, build, held, created, deleted, allowed, withdrawn, fresh_image}
use Rattle.bits.proofs.Sets.{iff, both, by_cases, find, any_same}
use Rattle.bits.proofs.Indexed.{length-tabulate}
use Rattle.bits.proofs.Bits.{bit_of_zero, some_bit}
use Rattle.model.specs.Invariant.{ranged}
use Rattle.layouts.specs.Laws.{Laws, Flat, Whole}
use Rattle.model.proofs.Commands.{depth_in, small}
use Rattle.layouts.proofs.Drops.{withdrawn-eight, withdrawn-places}
use Rattle.layouts.proofs.Layouts.{build_cong, lists-laws, rows-laws}
use lib.Pow.{pow_pos}
use Rattle.bits.specs.Zeros.{zeroed}
use Rattle.bits.proofs.Marks.{Cells, blanks, blank, at_none, cleared, at_cleared, cells_cleared, marked, image_is, at_cell, at_marked, cells_marked}
use Rattle.bits.proofs.Zeros.{length-zeroed, at-zeroed, cells-zeroed, zeroed-one}

-- ---- the commands
pub in_range : (p o r d : ℕ) → p < 64 → o < 64 → r < 8 → d < 8 → ranged (grant p o r d) ≡ true
in_range p o r d a b e f =
    both (both (le-leb p 63 (omega arith)) (le-leb o 63 (omega arith))) (both (le-leb r 7 (omega arith)) (le-leb d 7 (omega arith)))

pub lists-flat : Flat lists
unfolding lists
lists-flat = record {
  laws = lists-laws;
  depthless = λ p o r d. refl;
  onto = λ k h. omega arith;
  within = λ k h. in_range (k % 64) (k / 512) (k / 64 % 8) 0 (omega arith) (omega arith) (omega arith) (omega arith);
}

pub rows-flat : Flat rows
unfolding rows
rows-flat = record {
  laws = rows-laws;
  depthless = λ p o r d. refl;
  onto = λ k h. omega arith;
  within = λ k h. in_range (k / 512) (k / 8 % 64) (k % 8) 0 (omega arith) (omega arith) (omega arith) (omega arith);
}

-- one place for the eight depths
eight_times : (x : Bool) → x || (x || (x || (x || (x || (x || (x || (x || false))))))) ≡ x
eight_times true = refl
eight_times false = refl

-- bit 64 + i of an image is place i
pub shifted : (i p : ℕ) → eqb (64 + i) (64 + p) ≡ eqb p i
shifted i p =
    iff _ _ (λ z. let q = eqb-true (64 + i) (64 + p) z in eq-eqb p i (omega arith))
    (λ z. let q = eqb-true p i z in eq-eqb (64 + i) (64 + p) (omega arith))

module _ (L : Layout) (W : Laws L) where
  -- cells with the live set f and the places g
  pub build_is : (t : List ℕ) (f g : ℕ → Bool) → length t ≡ L.cells → Cells L.width t → ((i : ℕ) → i < 64 → live_in L t i ≡ f i)
      → ((k : ℕ) → k < L.size → grant_bit L t k ≡ g k) → t ≡ build L f g
  unfolding build
  build_is t f g l h e d =
      image_is L.width W.wide t L.cells _ l h
      (λ k b. by_cases (ltb k 64) (λ c. rw c (e k (ltb-true k 64 c)))
      (λ c. let m = ltb-false k 64 c in
      let z : 64 + (k - 64) ≡ k = omega arith in
      rw c (ap (at L.width t) (sym z) ∙ d (k - 64) (omega (arith, W.fits)))))

  cell_lt : (s : List ℕ) (c b p : ℕ) → length s ≡ L.cells → p < 64 + L.size → p ≡ c * L.width + b → b < L.width → c < length s
  cell_lt s c b p l h e k =
      let q : p / L.width ≡ c = rw e (digits_div c k) in
      rw (l, ← q) ((div-lt_iff_lt-mul W.wide).1 (omega (arith, W.fits)))

  -- what p holds, in a layout without depth: one bit
  pub held_is : Flat L → (s : List ℕ) (p o r c b : ℕ) → b < L.width → 64 + L.place (grant p o r 0) ≡ c * L.width + b
      → held L s p o r ≡ bit (get_or s c 0) b
  unfolding any
  held_is F s p o r c b k e =
      simp F.depthless (eight_times (grant_bit L s (L.place (grant p o r 0))) ∙ ap (at L.width s) e ∙ at_cell L.width W.wide s c b k)

  -- create: the item's bit of the live set, then an edit grant to by
  pub create_is : (s : List ℕ) → length s ≡ L.cells → (by on c b : ℕ) → on < 64 → b < L.width → on ≡ c * L.width + b
      → allowed L (marked s c b) (grant by on 0 0) ≡ created L s by on
  create_is s l by on c b o k e =
      let j : c < length s = cell_lt s c b on l (omega arith) e k in
      let m : (i : ℕ) → at L.width (marked s c b) i ≡ at L.width s i || eqb i on = λ i. rw e
      (at_marked L.width W.wide s c b k i j) in
      build_cong L W _ _ _ _ (λ i u. m i ∙ or_comm (live_in L s i) (eqb i on))
      (λ i u. ap (λ x. eqb (L.place (grant by on 0 0)) i || x) (m (64 + i) ∙ rw (ne_eqb (64 + i) on (λ z. omega arith)) (or-false _)))

  module _ (s : List ℕ) (l : length s ≡ L.cells) (h : Cells L.width s) where
    -- allow: the bit of its grant
    pub allow_is : (to on right depth c b : ℕ) → to < 64 → on < 64 → right < 8 → depth < 8 → b < L.width
        → 64 + L.place (grant to on right depth) ≡ c * L.width + b → marked s c b ≡ allowed L s (grant to on right depth)
    allow_is to on right depth c b t o r d k e =
        let p = W.below (grant to on right depth) (in_range to on right depth t o r d) in
        let j : c < length s = cell_lt s c b _ l (omega arith) e k in
        build_is (marked s c b) _ _ (length-set s _ _ ∙ l) (cells_marked L.width W.wide s c b k j h)
        (λ i u. at_marked L.width W.wide s c b k i j ∙ rw (ne_eqb i (c * L.width + b) (λ z. omega arith)) (or-false _))
        (λ i u. at_marked L.width W.wide s c b k (64 + i) j
        ∙ rw (← e) (or_comm (grant_bit L s i) (eqb (64 + i) (64 + L.place (grant to on right depth)))
        ∙ ap (λ x. x || grant_bit L s i) (shifted i (L.place (grant to on right depth)))))

    -- the bit of one place to 0
    pub cleared_is : (p c b : ℕ) → p < L.size → b < L.width → 64 + p ≡ c * L.width + b
        → cleared s c b ≡ build L (live_in L s) (λ k. grant_bit L s k && not (eqb p k))
    cleared_is p c b m k e =
        let j : c < length s = cell_lt s c b _ l (omega arith) e k in
        build_is (cleared s c b) _ _ (length-set s _ _ ∙ l) (cells_cleared L.width W.wide s c b k j h)
        (λ i u. at_cleared L.width W.wide s c b k i j ∙ rw (ne_eqb i (c * L.width + b) (λ z. omega arith)) (and-true _))
        (λ i u. at_cleared L.width W.wide s c b k (64 + i) j ∙ rw (← e) (ap (λ x. grant_bit L s i && not x) (shifted i p)))

    -- withdraw, in a layout without depth: the bit of its grant
    pub withdraw_is : Flat L → (to on right c b : ℕ) → to < 64 → on < 64 → right < 8 → b < L.width
        → 64 + L.place (grant to on right 0) ≡ c * L.width + b → cleared s c b ≡ withdrawn L s to on right
    unfolding any
    withdraw_is F to on right c b t o r k e =
        let g : ranged (grant to on right 0) ≡ true = in_range to on right 0 t o r (omega arith) in
        cleared_is (L.place (grant to on right 0)) c b (W.below (grant to on right 0) g) k e
        ∙ build_cong L W _ _ _ _ (λ i u. refl)
        (λ i u. let e : eqb (L.place (grant to on right 0)) i ≡ any (λ d. eqb (L.place (grant to on right d)) i) depths
        = simp F.depthless (sym (eight_times (eqb (L.place (grant to on right 0)) i))) in
        ap (λ x. grant_bit L s i && not x) e)
        ∙ sym (withdrawn-eight L W s to on right)

    -- delete: any cells with every bit but those that name the item
    pub delete_is : (t : List ℕ) (on : ℕ) → length t ≡ L.cells → Cells L.width t
        → ((i : ℕ) → i < 64 → live_in L t i ≡ live_in L s i && not (eqb i on))
        → ((k : ℕ) → k < L.size → grant_bit L t k ≡ grant_bit L s k && not (eqb (L.person k) on || eqb (L.item k) on))
        → t ≡ deleted L s on
    delete_is t on m f e d = build_is t _ _ m f e d

  -- a fresh unit: any cells with the root item's bit and its edit grant
  pub fresh_is : (t : List ℕ) → length t ≡ L.cells → Cells L.width t → ((i : ℕ) → i < 64 → live_in L t i ≡ eqb i 0)
      → ((k : ℕ) → k < L.size → grant_bit L t k ≡ eqb (L.place (grant 0 0 0 0)) k) → t ≡ fresh_image L
  unfolding fresh_image
  fresh_is t l h e d = build_is t _ _ l h e d

  -- cells of 0 with the root item's bit, then its edit grant
  pub fresh_marks : (z : List ℕ) (c b : ℕ) → length z ≡ L.cells → ((i : ℕ) → get_or z i 0 ≡ 0) → b < L.width
      → 64 + L.place (grant 0 0 0 0) ≡ c * L.width + b → marked (marked z 0 0) c b ≡ fresh_image L
  fresh_marks z c b l o k e =
      let p = W.below (grant 0 0 0 0) refl in
      let n : (i : ℕ) → at L.width z i ≡ false = λ i. at_none L.width z o i in
      let f : Cells L.width z = λ i u. rw (o i) (pow_pos L.width) in
      let i0 : 0 < length z = cell_lt z 0 0 0 l (omega arith) (omega arith) W.wide in
      let i1 : c < length (marked z 0 0) = rw (length-set z 0 (with_bit (get_or z 0 0) 0)) (cell_lt z c b _ l (omega arith) e k) in
      let m : (i : ℕ) → at L.width (marked (marked z 0 0) c b) i ≡ eqb i 0 || eqb i (64 + L.place (grant 0 0 0 0)) =
      λ i. at_marked L.width W.wide (marked z 0 0) c b k i i1
      ∙ rw (e, at_marked L.width W.wide z 0 0 W.wide i i0, n i)
      (ap (λ (x : ℕ). eqb i x || eqb i (c * L.width + b)) (let y : 0 * L.width + 0 ≡ 0 = omega arith in y)) in
      fresh_is _ (length-set (marked z 0 0) _ _ ∙ length-set z _ _ ∙ l)
      (cells_marked L.width W.wide (marked z 0 0) c b k i1 (cells_marked L.width W.wide z 0 0 W.wide i0 f))
      (λ i u. m i ∙ rw (ne_eqb i (64 + L.place (grant 0 0 0 0)) (λ y. omega arith)) (or-false _))
      (λ i u. m (64 + i) ∙ rw (ne_eqb (64 + i) 0 (λ y. omega arith)) (shifted i (L.place (grant 0 0 0 0))))

  -- the two cells of a fresh unit that are not 0: the live set, and the edit grant of the root item, in cell c
  module _ (c : ℕ) (n : c ≡ 0 → ⊥) (e : 64 + L.place (grant 0 0 0 0) ≡ c * L.width + 0) where
    second : (z : List ℕ) → ((i : ℕ) → get_or z i 0 ≡ 0) → marked (marked z 0 0) c 0 ≡ set (set z 0 1) c 1
    unfolding with_bit bit
    second z o = rw (get_or-set_other z 0 c (with_bit (get_or z 0 0) 0) 0 n, o 0, o c)

    pub fresh_cells : (get_or (fresh_image L) 0 0 ≡ 1) × (get_or (fresh_image L) c 0 ≡ 1)
    unfolding blanks
    fresh_cells =
        let z : List ℕ = blanks L.cells in
        let l : length z ≡ L.cells = length-tabulate L.cells _ in
        let q : set (set z 0 1) c 1 ≡ fresh_image L = sym (second z (blank L.cells))
        ∙ fresh_marks z c 0 l (blank L.cells) W.wide e in
        let i0 : 0 < length z = cell_lt z 0 0 0 l (omega arith) (omega arith) W.wide in
        let i1 : c < length (set z 0 1) = rw (length-set z 0 1)
        (cell_lt z c 0 _ l (omega (arith, W.below (grant 0 0 0 0) refl)) e W.wide) in (
          rw (← q) (get_or-set_other (set z 0 1) c 0 1 0 (λ y. n (sym y)) ∙ get_or-set_same z 0 1 0 i0),
          rw (← q)
              (get_or-set_same (set z 0 1) c 1 0 i1),
        )

    -- the same written over cells of 0
    pub fresh-written : (z : List ℕ) (x y : ℕ) → length z ≡ L.cells → ((i : ℕ) → get_or z i 0 ≡ 0)
        → x ≡ get_or (fresh_image L) 0 0 → y ≡ get_or (fresh_image L) c 0 → set (set z 0 x) c y ≡ fresh_image L
    fresh-written z x y l o f g =
        rw (f ∙ fresh_cells.0, g ∙ fresh_cells.1) (sym (second z o) ∙ fresh_marks z c 0 l o W.wide e)

-- ---- a cell other than 0 has a grant
pub some_depth : (x : ℕ) → x < 2 ^ 8 → any (bit x) depths ≡ not (eqb x 0)
some_depth x h =
    iff _ _
    (λ t. let f = find (bit x) (λ d. leb d 7) depths small t in
    ap not (ne_eqb x 0 (λ z. false≢true (sym (bit_of_zero f.0) ∙ ap (λ (y : ℕ). bit y f.0) (sym z) ∙ f.2))))
    (λ t. let b = some_bit 8 x h (λ z. false≢true (ap not (sym (eq-eqb x 0 z)) ∙ t)) in
    any_same (bit x) eqb eqb-true b.0 depths (depth_in b.0 (le-leb b.0 7 (omega (arith, b.1)))) b.2)

-- ---- the commands that end grants
module _ (L : Layout) (W : Laws L) (s : List ℕ) (l : length s ≡ L.cells) (h : Cells L.width s) where
  -- delete: the item out of the live set, then every cell that names it to 0, in two goes
  module _ (on c b : ℕ) (f g : ℕ → Bool) (o : on < 64) (k : b < L.width) (e : on ≡ c * L.width + b) (j : c < length s) where
    left : List ℕ
    left = zeroed g (zeroed f (cleared s c b))

    bits_left : (i : ℕ) → at L.width left i ≡ at L.width s i && not (eqb i on) && not (f (i / L.width) || g (i / L.width))
    unfolding left
    bits_left i =
        at-zeroed g (zeroed f (cleared s c b)) L.width i
        ∙ rw (at-zeroed f (cleared s c b) L.width i, at_cleared L.width W.wide s c b k i j, ← e)
        (joined (at L.width s i && not (eqb i on)) (f (i / L.width)) (g (i / L.width)))
      where
        joined : (x y z : Bool) → x && not y && not z ≡ x && not (y || z)
        joined x true z = rw (and-false x)
        joined x false z = rw (and-true x)

    pub delete-cells : ((i : ℕ) → i < 64 → f (i / L.width) || g (i / L.width) ≡ false)
        → ((i : ℕ) → i < L.size → f ((64 + i) / L.width) || g ((64 + i) / L.width) ≡ eqb (L.person i) on || eqb (L.item i) on)
        → zeroed g (zeroed f (cleared s c b)) ≡ deleted L s on
    unfolding left
    delete-cells n m =
        delete_is L W s l h left on (length-zeroed g _ ∙ length-zeroed f _ ∙ length-set s _ _ ∙ l)
        (cells-zeroed g _ L.width (cells-zeroed f _ L.width (cells_cleared L.width W.wide s c b k j h)))
        (λ i u. bits_left i ∙ rw (n i u) (and-true _))
        (λ i u. bits_left (64 + i) ∙ rw (m i u, ne_eqb (64 + i) on (λ z. omega arith), and-true (grant_bit L s i)))

  -- withdraw: the cell that has every depth of the grant
  pub withdraw_cell : Whole L → (to on right c : ℕ) → to < 64 → on < 64 → right < 8 → c < length s → ((i : ℕ) → i < 64 → eqb (i / L.width) c ≡ false)
      → ((i : ℕ) → i < L.size → eqb ((64 + i) / L.width) c ≡ eqb (L.person i) to && eqb (L.item i) on && eqb (L.right i) right)
      → set s c 0 ≡ withdrawn L s to on right
  withdraw_cell H to on right c t o r j n m =
      zeroed-one s c j
      ∙ build_is L W _ _ _ (length-zeroed _ s ∙ l) (cells-zeroed _ s L.width h)
      (λ i u. at-zeroed _ s L.width i ∙ rw (n i u) (and-true _))
      (λ i u. at-zeroed _ s L.width (64 + i) ∙ rw (m i u))
      ∙ sym (withdrawn-places L H s to on right (in_range to on right 0 t o r (omega arith)))
