-- An image that is made block by block, of cells of any width: the live set first, then the places, where the bits of the blocks to
-- come are still left out. A block's bits are told apart by their place in it, below 64.
use mathlib.Core.Path.{◌≡◌, refl, sym, ap, ◌∙◌}
use mathlib.Core.Bool.{Bool, true, false, not, ◌&&◌, ◌||◌, cond, and-true, and-false, or-true, or-false}
use mathlib.Core.List.{List}
use Prim.Native.Nat.{ℕ, ◌+◌, ◌-◌, ◌*◌, ◌≤◌, ◌<◌, ◌/◌, ◌%◌}
use native.Mathlib.Omega.{arith}
use borrow.Author.Tests.{eqb-true, eqb-false, ltb-true, ltb-false, lt-ltb, le-ltb, le-leb, leb-true, leb-false, lt-leb}
use lib.ListN.{length, get_or, set, length-set}
use lib.Seq.{get_or-set_same, get_or-set_other}
use lib.Pow.{pow_pos}
use native.Mathlib.Nat.{div-lt_iff_lt-mul, le-div_iff_mul-le}
use lib.Dec.{eqb, ltb, leb}
use Rattle.bits.specs.Bits.{bit, with_bit, without_bit}
use Rattle.bits.specs.Cells.{at}
use Rattle.bits.proofs.Sets.{iff, by_cases}
use Rattle.bits.proofs.Bits.{bit_of_zero, bit-without}
use Rattle.bits.proofs.Cells.{length-image, image_lt, at-image, image_cong}
use Rattle.bits.proofs.Marks.{Cells, image_is, cells_marked, at_marked}
use Rattle.convert.specs.Blocks.{lacking, ahead}

-- bit j is of a later block, or of block t at a place that is in rest
unfoldable pub pending : (ℕ → ℕ) → (ℕ → ℕ) → ℕ → ℕ → ℕ → Bool
pending block place t rest j = leb 64 j && (ltb t (block (j - 64)) || (eqb t (block (j - 64)) && bit rest (place (j - 64))))

-- bit j is the one of block t at place b
abbrev pub placed : (ℕ → ℕ) → (ℕ → ℕ) → ℕ → ℕ → ℕ → Bool
placed block place t b j = leb 64 j && (eqb t (block (j - 64)) && eqb (place (j - 64)) b)

module _ (w n : ℕ) (pos : 0 < w) (s : List ℕ) where
  pub lacking-length : (f : ℕ → Bool) → length (lacking w n f s) ≡ n
  unfolding lacking
  lacking-length f = length-image w n _

  pub lacking-cells : (f : ℕ → Bool) → Cells w (lacking w n f s)
  unfolding lacking
  lacking-cells f i h = image_lt w pos n _ i (rw (length-image w n _) at h)

  at-lacking : (f : ℕ → Bool) (j : ℕ) → j < n * w → at w (lacking w n f s) j ≡ at w s j && not (f j)
  unfolding lacking
  at-lacking f j h = at-image w pos n _ j h

  pub lacking_is : (f : ℕ → Bool) (m : List ℕ) → length m ≡ n → Cells w m → ((j : ℕ) → j < n * w → at w m j ≡ at w s j && not (f j))
      → m ≡ lacking w n f s
  unfolding lacking
  lacking_is f m l h e = image_is w pos m n _ l h e

  lacking_cong : (f g : ℕ → Bool) → ((j : ℕ) → j < n * w → at w s j && not (f j) ≡ at w s j && not (g j))
      → lacking w n f s ≡ lacking w n g s
  unfolding lacking
  lacking_cong f g e = image_cong w pos n _ _ e

  pub lacking-none : (f : ℕ → Bool) → length s ≡ n → Cells w s → ((j : ℕ) → j < n * w → f j ≡ false) → lacking w n f s ≡ s
  unfolding lacking
  lacking-none f l h e = sym (image_is w pos s n _ l h (λ j b. sym (rw (e j b) (and-true (at w s j)))))

  module _ (block place : ℕ → ℕ) where
    -- before the first block: the live set alone
    pub begin_blocks : (m : List ℕ) → length m ≡ n → Cells w m → ((j : ℕ) → j < n * w → at w m j ≡ at w s j && ltb j 64)
        → m ≡ lacking w n (ahead block 0) s
    unfolding ahead
    begin_blocks m l h e =
        lacking_is _ m l h
        (λ j b. e j b
        ∙ by_cases (leb 64 j) (λ u. rw (u, le-leb 0 (block (j - 64)) (omega arith), le-ltb j 64 (leb-true 64 j u)))
        (λ u. rw (u, lt-ltb j 64 (leb-false 64 j u))))

    -- a block begins with the places of rest: at the others it has no bit
    pub open_block : (t rest : ℕ) → ((k : ℕ) → 64 + k < n * w → block k ≡ t → bit rest (place k) ≡ false → at w s (64 + k) ≡ false)
        → lacking w n (ahead block t) s ≡ lacking w n (pending block place t rest) s
    unfolding ahead pending
    open_block t rest h = lacking_cong _ _ (λ j b. by_cases (leb 64 j) (λ u. rw u (inside j b (leb-true 64 j u))) (λ u. rw u))
      where
        not_same : (a b : ℕ) → (a ≡ b → ⊥) → a ≤ b → a < b
        not_same a b q y = by_cases (ltb a b) (λ z. ltb-true a b z) (λ z. absurd (q (omega (arith, ltb-false a b z))))

        inside : (j : ℕ) → j < n * w → 64 ≤ j
            → at w s j && not (leb t (block (j - 64))) ≡ at w s j && not
            (ltb t (block (j - 64)) || (eqb t (block (j - 64)) && bit rest (place (j - 64))))
        inside j b u =
            by_cases (eqb t (block (j - 64)))
            (λ e. let q : t ≡ block (j - 64) = eqb-true t (block (j - 64)) e in
            rw (e, le-leb t (block (j - 64)) (omega arith), le-ltb t (block (j - 64)) (omega arith))
            (by_cases (bit rest (place (j - 64))) (λ r. rw r)
            (λ r. let k : 64 + (j - 64) ≡ j = omega arith in
            let z : at w s j ≡ false = ap (at w s) (sym k) ∙ h (j - 64) (omega arith) (sym q) r in
            rw (r, z))))
            (λ e. let q = eqb-false t (block (j - 64)) e in
            rw (e, or-false (ltb t (block (j - 64))))
            (ap (λ x. at w s j && not x)
            (iff (leb t (block (j - 64))) (ltb t (block (j - 64)))
            (λ z. lt-ltb t _ (let y = leb-true t (block (j - 64)) z in not_same t (block (j - 64)) q y))
            (λ z. le-leb t _ (omega (arith, ltb-true t (block (j - 64)) z))))))

    -- and ends with none
    pub close_block : (t : ℕ) → lacking w n (pending block place t 0) s ≡ lacking w n (ahead block (t + 1)) s
    unfolding ahead pending
    close_block t =
        lacking_cong _ _
        (λ j b. ap (λ x. at w s j && not (leb 64 j && x))
        (rw (bit_of_zero (place (j - 64)), and-false (eqb t (block (j - 64))), or-false (ltb t (block (j - 64))))
        (iff _ _ (λ z. le-leb (t + 1) _ (omega (arith, ltb-true t (block (j - 64)) z)))
        (λ z. lt-ltb t _ (omega (arith, leb-true (t + 1) (block (j - 64)) z))))))

    -- the bits of one place are put in
    pub put-place : (t rest b : ℕ) (m x : List ℕ) → m ≡ lacking w n (pending block place t rest) s → length x ≡ n → Cells w x
        → ((j : ℕ) → j < n * w → at w x j ≡ cond (placed block place t b j) (at w s j) (at w m j))
        → x ≡ lacking w n (pending block place t (without_bit rest b)) s
    unfolding pending
    put-place t rest b m x e l h d =
        lacking_is _ x l h (λ j c. d j c ∙ rw e (ap (λ y. cond (placed block place t b j) (at w s j) y) (at-lacking _ j c) ∙ each j))
      where
        value : (v o e g r : Bool) (l : Bool) → (e ≡ true → l ≡ false)
            → cond (o && (e && g)) v (v && not (o && (l || (e && r)))) ≡ v && not (o && (l || (e && (r && not g))))
        value v false e g r l h = refl
        value v true false g r l h = refl
        value v true true true r l h = rw (h refl, and-false r) (sym (and-true v))
        value v true true false r l h = rw (and-true r)

        each : (j : ℕ) → cond (placed block place t b j) (at w s j) (at w s j && not (pending block place t rest j)) ≡ at w s j && not
            (pending block place t (without_bit rest b) j)
        each j =
            rw (bit-without rest b (place (j - 64)))
            (value (at w s j) (leb 64 j) (eqb t (block (j - 64))) (eqb (place (j - 64)) b) (bit rest (place (j - 64)))
            (ltb t (block (j - 64)))
            (λ z. le-ltb t (block (j - 64)) (omega (arith, eqb-true t (block (j - 64)) z))))

    -- a bit put in, the only one of its place
    pub put-bit : (t rest b c i : ℕ) (m : List ℕ) → c < n → i < w → m ≡ lacking w n (pending block place t rest) s
        → at w s (c * w + i) ≡ true → ((j : ℕ) → j < n * w → eqb j (c * w + i) ≡ placed block place t b j)
        → set m c (with_bit (get_or m c 0) i) ≡ lacking w n (pending block place t (without_bit rest b)) s
    put-bit t rest b c i m h k e y d =
        let l : length m ≡ n = rw e (lacking-length _) in
        put-place t rest b m (set m c (with_bit (get_or m c 0) i)) e (length-set m c _ ∙ l)
        (cells_marked w pos m c i k (omega arith) (rw e (lacking-cells _)))
        (λ j g. at_marked w pos m c i k j (omega arith)
        ∙ by_cases (eqb j (c * w + i))
        (λ z. rw (← (d j g), z, eqb-true j (c * w + i) z, y) (or-true (at w m (c * w + i))))
        (λ z. rw (← (d j g), z) (or-false (at w m j))))

    -- after the last block
    pub end_blocks : (t : ℕ) → length s ≡ n → Cells w s → ((k : ℕ) → 64 + k < n * w → block k < t) → lacking w n (ahead block t) s ≡ s
    unfolding ahead
    end_blocks t l h e =
        lacking-none _ l h
        (λ j b. by_cases (leb 64 j) (λ u. let v = leb-true 64 j u in rw (u, lt-leb t (block (j - 64)) (e (j - 64) (omega arith))))
        (λ u. rw u))

-- ---- by cells
-- a cell put in whole
pub at-put : (w : ℕ) (m s : List ℕ) (c v j : ℕ) → c < length m → v ≡ get_or s c 0
    → at w (set m c v) j ≡ cond (eqb (j / w) c) (at w s j) (at w m j)
unfolding at
at-put w m s c v j h e =
    by_cases (eqb (j / w) c) (λ t. rw (t, eqb-true (j / w) c t, get_or-set_same m c v 0 h, e))
    (λ t. rw (t, get_or-set_other m c (j / w) v 0 (eqb-false (j / w) c t)))

-- the cells of the live set alone
pub begin_cells : (w n q : ℕ) (pos : 0 < w) (s m : List ℕ) (block place : ℕ → ℕ) → q * w ≡ 64 → length s ≡ n → Cells w s → length m ≡ n
    → ((i : ℕ) → i < q → get_or m i 0 ≡ get_or s i 0) → ((i : ℕ) → q ≤ i → get_or m i 0 ≡ 0) → m ≡ lacking w n (ahead block 0) s
unfolding at
begin_cells w n q pos s m block place e l h k a z =
    begin_blocks w n pos s block place m k
    (λ i b. by_cases (ltb i q) (λ t. rw (a i (ltb-true i q t)) (h i (omega arith))) (λ t. rw (z i (ltb-false i q t)) (pow_pos w)))
    (λ j b. by_cases (ltb j 64)
    (λ t. let u : j / w < q = (div-lt_iff_lt-mul pos).1 (omega (arith, ltb-true j 64 t)) in rw (t, a (j / w) u) (sym (and-true _)))
    (λ t. let u : q ≤ j / w = (le-div_iff_mul-le pos).1 (omega (arith, ltb-false j 64 t)) in
    rw (t, z (j / w) u, and-false (bit (get_or s (j / w) 0) (j % w))) (bit_of_zero (j % w))))
