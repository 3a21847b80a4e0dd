-- A scan of rows, as what it tests: rights on living items only, of living persons only; and whether a person has a right.
use mathlib.Core.Path.{◌≡◌, refl, sym, ap, ap₂, ◌∙◌}
use mathlib.Core.Bool.{Bool, true, false, not, ◌||◌, cond, false≢true, or-true, or-false}
use mathlib.Core.List.{List}
use Prim.Native.Nat.{ℕ, ◌+◌, ◌-◌, ◌*◌, ◌/◌, ◌%◌, ◌^◌, ◌<◌}
use native.Mathlib.Omega.{arith}
use borrow.Author.Tests.{eqb-true, eq-eqb, ne_eqb}
use lib.ListN.{length, take, drop, get_or}
use lib.Seq.{get_or-take, get_or-drop}
use lib.Bits.{bit_and, bit_or}
use lib.Dec.{eqb}
use Rattle.bits.specs.Sets.{all_below}
use Rattle.bits.specs.Cells.{at}
use Rattle.layouts.specs.Live.{masks_of}
use Rattle.layouts.specs.Layouts.{rows, grant_bit}
use Rattle.bits.proofs.Sets.{fst, snd, both, by_cases}
use Rattle.bits.proofs.Indexed.{below_elim, below_fails, below_ext, below_or, below_nested, below_swap, some_intro, some_elim}
use Rattle.bits.proofs.Bits.{bit_of_zero, some_bit}
use Rattle.bits.specs.Bits.{or_below}
use Rattle.bits.proofs.Scan.{or-zero-below, or-part, mask_both, cell_named}
use Rattle.layouts.proofs.Masks.{masks_at}
use Rattle.layouts.specs.Order.{items_ok, persons_ok}
use Rattle.layouts.specs.Subjects.{is_subject}
use Rattle.rows.proofs.Bytes.{byte_bit}

module _ (s : List ℕ) (h : (i : ℕ) → get_or s i 0 < 2 ^ 8) where
  abbrev byte : ℕ → ℕ → ℕ
  byte who o = get_or s (8 + 64 * who + o) 0

  -- the places of a row, byte by byte: f of a place is g of its item
  row_bytes_lem : (who : ℕ) (f g : ℕ → Bool) → ((o r : ℕ) → o < 64 → r < 8 → f (512 * who + (8 * o + r)) ≡ g o)
      → all_below 512 (λ j. not (grant_bit rows s (512 * who + j)) || f (512 * who + j)) ≡ all_below 64 (λ o. eqb (byte who o) 0 || g o)
  unfolding rows
  row_bytes_lem who f g e =
      below_nested 8 64 (λ j. not (grant_bit rows s (512 * who + j)) || f (512 * who + j))
      ∙ below_ext 64 _ _
      (λ o u. below_ext 8 _ _ (λ r v. ap₂ (λ x y. not x || y) (byte_bit s _ (8 + 64 * who + o) r v (omega arith)) (e o r u v))
      ∙ cell_named 8 (byte who o) (g o) (h _))

  -- ---- items
  row-items : (who : ℕ) → items_ok rows s 512 who ≡ all_below 64 (λ o. eqb (byte who o) 0 || at 8 s o)
  unfolding items_ok rows
  row-items who =
      row_bytes_lem who (λ k. at 8 s (k / 8 % 64)) (at 8 s)
      (λ o r u v. ap (at 8 s) (let e : (512 * who + (8 * o + r)) / 8 % 64 ≡ o = omega arith in e))

  -- eight rows, lent as one part, under the masks
  pub items_pass : (k : ℕ) (d : List ℕ) (x : Bool) → d ≡ masks_of s
      → x ≡ all_below 64 (λ p. all_below 8
      (λ j. eqb (bit_and (get_or (take (8 + 512 * k + 512 - (8 + 512 * k)) (drop (8 + 512 * k) s)) (p + 64 * j) 0) (bit_or 0 (get_or d p 0))) 0))
      → x ≡ all_below 8 (λ j. items_ok rows s 512 (8 * k + j))
  items_pass k d x f q =
      q
      ∙ below_ext 64 _ (λ p. all_below 8 (λ j. eqb (byte (8 * k + j) p) 0 || at 8 s p))
      (λ p u. below_ext 8 _ _
      (λ j v. let n : 8 + 512 * k + (p + 64 * j) ≡ 8 + 64 * (8 * k + j) + p = omega arith in
      let part = get_or-take (8 + 512 * k + 512 - (8 + 512 * k)) (drop (8 + 512 * k) s) (p + 64 * j) 0 (omega arith)
      ∙ get_or-drop (8 + 512 * k) s (p + 64 * j) 0 ∙ ap (λ (i : ℕ). get_or s i 0) n in
      rw (part, masks_at s d f p u) (mask_both 8 (byte (8 * k + j) p) true (at 8 s p) (h _))))
      ∙ below_swap 64 8 (λ p j. eqb (byte (8 * k + j) p) 0 || at 8 s p)
      ∙ below_ext 8 _ _ (λ j v. sym (row-items (8 * k + j)))

  module _ (who : ℕ) (l : length s ≡ 4104) (w : who < 64) where
    -- what the code finds of the row, lent as a part
    abbrev has_right : Bool
    has_right =
        not (eqb (or_below (length (take (8 + 64 * who + 64 - (8 + 64 * who)) (drop (8 + 64 * who) s)))
        (λ i. get_or (take (8 + 64 * who + 64 - (8 + 64 * who)) (drop (8 + 64 * who) s)) i 0)) 0)

    joined : has_right ≡ not (eqb (or_below 64 (byte who)) 0)
    joined = ap (λ (x : ℕ). not (eqb x 0)) (or-part s (8 + 64 * who) 64 (omega arith))

    -- ---- subjects
    -- a byte with a right is a grant to the person, and back
    some_right : all_below 64 (λ i. eqb (byte who i) 0) ≡ false → is_subject rows s who ≡ true
    unfolding rows
    some_right e =
        let f = below_fails 64 _ e in
        let b = some_bit 8 (byte who f.0) (h _) (λ z. false≢true (sym f.2 ∙ eq-eqb (byte who f.0) 0 z)) in
        some_intro 32768 _ (512 * who + (8 * f.0 + b.0)) (omega (arith, f.1, b.1))
        (both (byte_bit s _ (8 + 64 * who + f.0) b.0 b.1 (omega arith) ∙ b.2)
        (eq-eqb _ who (let z : (512 * who + (8 * f.0 + b.0)) / 512 ≡ who = omega (arith, f.1, b.1) in z)))

    no-bit : (k : ℕ) → k / 512 ≡ who → eqb (byte who (k / 8 % 64)) 0 ≡ true → at 8 s (64 + k) ≡ false
    unfolding rows
    no-bit k p z =
        byte_bit s (64 + k) (8 + 64 * who + k / 8 % 64) (k % 8) (omega arith) (omega arith)
        ∙ rw (eqb-true (byte who (k / 8 % 64)) 0 z) (bit_of_zero (k % 8))

    no-right : all_below 64 (λ i. eqb (byte who i) 0) ≡ true → is_subject rows s who ≡ true → ⊥
    unfolding rows
    no-right e t =
        let f = some_elim 32768 _ t in
        let g : at 8 s (64 + f.0) ≡ true = fst (at 8 s (64 + f.0)) _ f.2 in
        let p : f.0 / 512 ≡ who = eqb-true _ who (snd (at 8 s (64 + f.0)) _ f.2) in
        false≢true (sym (no-bit f.0 p (below_elim 64 _ e (f.0 / 8 % 64) (omega arith))) ∙ g)

    pub row-holds : (v : Bool) → v ≡ has_right → v ≡ is_subject rows s who
    row-holds v q =
        q ∙ joined ∙ ap not (or-zero-below 64 (byte who))
        ∙ by_cases (all_below 64 (λ i. eqb (byte who i) 0))
        (λ t. rw t (by_cases (is_subject rows s who) (λ u. absurd (no-right t u)) (λ u. sym u)))
        (λ t. rw t (sym (some_right t)))

    -- ---- persons
    row-person : persons_ok rows s 512 who ≡ eqb (or_below 64 (byte who)) 0 || at 8 s who
    unfolding persons_ok rows
    row-person =
        row_bytes_lem who (λ k. at 8 s (k / 512)) (λ o. at 8 s who)
        (λ o r u v. ap (at 8 s) (let e : (512 * who + (8 * o + r)) / 512 ≡ who = omega arith in e))
        ∙ below_or 64 (λ o. eqb (byte who o) 0) (at 8 s who) ∙ ap (λ x. x || at 8 s who) (sym (or-zero-below 64 (byte who)))

    -- by the person's mask, and v, whether the person has a right
    module _ (d : List ℕ) (f : d ≡ masks_of s) where
      lives : at 8 s who ≡ eqb (get_or d who 0) 0
      lives = go (at 8 s who) (masks_at s d f who w)
        where
          go : (b : Bool) → get_or d who 0 ≡ cond b 0 255 → b ≡ eqb (get_or d who 0) 0
          go true e = sym (rw e)
          go false e = sym (rw e)

      pub person-lives : get_or d who 0 ≡ 0 → true ≡ persons_ok rows s 512 who
      person-lives z = sym (row-person ∙ rw (lives, eq-eqb _ 0 z) (or-true (eqb (or_below 64 (byte who)) 0)))

      pub person_dead : (v : Bool) → (get_or d who 0 ≡ 0 → ⊥) → v ≡ is_subject rows s who → not v ≡ persons_ok rows s 512 who
      person_dead v n q =
          ap not (q ∙ sym (row-holds has_right refl) ∙ joined) ∙ twice (eqb (or_below 64 (byte who)) 0)
          ∙ sym (row-person ∙ rw (lives, ne_eqb _ 0 n) (or-false (eqb (or_below 64 (byte who)) 0)))
        where
          twice : (b : Bool) → not (not b) ≡ b
          twice true = refl
          twice false = refl
