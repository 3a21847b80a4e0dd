-- Demand 3 for a unit of any layout: fed the same commands, it follows the journal.
use mathlib.Core.Path.{◌≡◌, refl, sym, ap, ◌∙◌}
use mathlib.Core.Bool.{Bool, true, false, not, ◌&&◌, ◌||◌, cond}
use mathlib.Core.List.{List, map}
use Prim.Native.Nat.{ℕ, ◌+◌, ◌-◌, ◌%◌, ◌^◌, ◌≤◌, ◌<◌}
use native.Mathlib.Omega.{arith}
use borrow.Author.Tests.{eqb-true, eq-eqb, leb-true, ltb-true, lt-ltb, le-ltb, le-leb, ltb-false}
use lib.ListN.{length, get_or, get_or-eq_default}
use lib.Pow.{pow_pos}
use lib.Dec.{eqb, leb, ltb}
use Rattle.bits.specs.Sets.{any, all}
use Rattle.model.specs.Commands.{depths, items, right_depth, arguments_of, fits, members_of}
use Rattle.layouts.specs.Machine.{answer_of}
use Rattle.model.specs.Journal.{Grant, Journal, grant, same_grant, is_to, names, lives, facts, answered, fresh, apply, has_grant}
use Rattle.layouts.specs.Layouts.{Layout, lists, rows, grant_bytes, live_in, grant_bit, build, held, is_in_order, facts_of, guarded, created, deleted, allowed, allowed_set, flat_unit, fresh_image, check_yes}
use Rattle.bits.proofs.Sets.{iff, fst, snd, both, or_left, or_right, by_cases, find, any_cong, any_same, any_kept, any-add, any_swap, any-map}
use Rattle.bits.proofs.Indexed.{below_intro, below_elim, below_ext}
use Rattle.bits.specs.Bits.{bit}
use Rattle.bits.proofs.Members.{all-members}
use Rattle.bits.proofs.Cells.{image_lt, at-image, image_cong, length-image}
use Rattle.model.proofs.Commands.{ranged_command, depth_in, small}
use Rattle.model.proofs.Invariant.{same_grant_lem, lives-create, lives-delete, to-parts, beyond-none}
use Rattle.model.specs.Invariant.{ranged, sound, Inv}
use Rattle.model.specs.declared.Command.{Command}
use Rattle.model.specs.declared.Command.TheVariants.{Create, Delete, Allow, AllowSet}
use Rattle.model.proofs.Answers.{LoanFree, table-flat}
use Rattle.model.proofs.AllowSet.{answered-table, any-granted, live-granted}
use Rattle.layouts.specs.Laws.{Laws, Whole, placed, image_of}

module _ (L : Layout) (W : Laws L) where
  -- ---- an image that is built
  pub live-build : (f g : ℕ → Bool) (i : ℕ) → leb i 63 ≡ true → live_in L (build L f g) i ≡ f i
  unfolding build
  live-build f g i h =
      let b : i < 64 = omega (arith, leb-true i 63 h) in
      at-image L.width W.wide L.cells _ i (omega (arith, W.fits)) ∙ ap (λ b. cond b (f i) (g (i - 64))) (lt-ltb i 64 b)

  pub bit-at-build : (f g : ℕ → Bool) (k : ℕ) → k < L.size → grant_bit L (build L f g) k ≡ g k
  unfolding build
  bit-at-build f g k h =
      at-image L.width W.wide L.cells _ (64 + k) (omega (arith, W.fits))
      ∙ ap (λ b. cond b (f (64 + k)) (g (64 + k - 64))) (le-ltb (64 + k) 64 (omega arith))
      ∙ ap g (let z : 64 + k - 64 ≡ k = omega arith in z)

  pub build_cong : (f f' g g' : ℕ → Bool) → ((i : ℕ) → leb i 63 ≡ true → f i ≡ f' i) → ((k : ℕ) → k < L.size → g k ≡ g' k)
      → build L f g ≡ build L f' g'
  unfolding build
  build_cong f f' g g' e d =
      image_cong L.width W.wide L.cells _ _
      (λ k h. by_cases (ltb k 64) (λ t. rw (t, e k (le-leb k 63 (omega (arith, ltb-true k 64 t)))))
      (λ t. rw (t, d (k - 64) (omega (arith, ltb-false k 64 t, W.fits)))))

  -- ---- the image of a journal
  pub live_of : (j : Journal) (i : ℕ) → leb i 63 ≡ true → live_in L (image_of L j) i ≡ lives j i
  unfolding image_of
  live_of j i h = live-build (lives j) (placed L j) i h

  pub members_of_lem : (j : Journal) (set : ℕ) → all (live_in L (image_of L j)) (members_of set) ≡ all (lives j) (members_of set)
  members_of_lem j set =
      all-members 64 set (live_in L (image_of L j))
      ∙ below_ext 64 _ _ (λ i h. ap (λ b. not (bit set i) || b) (live_of j i (le-leb i 63 (omega arith))))
      ∙ sym (all-members 64 set (lives j))

  pub bit-at_of : (j : Journal) (k : ℕ) → k < L.size → grant_bit L (image_of L j) k ≡ placed L j k
  unfolding image_of
  bit-at_of j k h = bit-at-build (lives j) (placed L j) k h

  pub length_of_lem : (j : Journal) → length (image_of L j) ≡ L.cells
  unfolding image_of build
  length_of_lem j = length-image L.width L.cells _

  pub cells-build : (f g : ℕ → Bool) (i : ℕ) → get_or (build L f g) i 0 < 2 ^ L.width
  unfolding build
  cells-build f g i =
      by_cases (ltb i L.cells) (λ t. image_lt L.width W.wide L.cells _ i (ltb-true i L.cells t))
      (λ t. let past : length (build L f g) ≤ i = rw (length-image L.width L.cells (λ k. cond (ltb k 64) (f k) (g (k - 64)))) (ltb-false i L.cells t) in
      rw (get_or-eq_default (build L f g) 0 past) (pow_pos L.width))

  pub cells_of : (j : Journal) (i : ℕ) → get_or (image_of L j) i 0 < 2 ^ L.width
  unfolding image_of
  cells_of j i = cells-build (lives j) (placed L j) i

  -- equal places are of grants that differ in depth at most
  pub place-to : (p o r : ℕ) → items p o && right_depth r 0 ≡ true → (g : Grant) → ranged g ≡ true
      → any (λ d. eqb (L.place g) (L.place (grant p o r d))) depths ≡ is_to p o r g
  place-to p o r h g k =
      iff _ _
      (λ e. let f = find (λ d. eqb (L.place g) (L.place (grant p o r d))) (λ d. leb d 7) depths small e in
      let d : ranged (grant p o r f.0) ≡ true = let x = f.1 in search (fst, snd, both) in
      let q : L.place g ≡ L.place (grant p o r f.0) = eqb-true _ _ f.2 in
      both (both (eq-eqb _ _ (sym (W.person_of g k) ∙ ap L.person q ∙ W.person_of _ d))
      (eq-eqb _ _ (sym (W.item_of g k) ∙ ap L.item q ∙ W.item_of _ d)))
      (eq-eqb _ _ (sym (W.right_of g k) ∙ ap L.right q ∙ W.right_of _ d)))
      (λ e. let q = to-parts p o r g e in
      let a = q.0 in
      let b = q.1 in
      let c = q.2 in
      let d : leb g.depth 7 ≡ true = search (fst, snd) in
      any_same (λ d. eqb (L.place g) (L.place (grant p o r d))) eqb eqb-true g.depth depths (depth_in g.depth d)
      (eq-eqb _ _ (ap L.place (let z : grant g.person g.item g.right g.depth ≡ grant p o r g.depth = cc in z))))

  pub held_of : (j : Journal) → Inv j → (p o r : ℕ) → items p o && right_depth r 0 ≡ true → held L (image_of L j) p o r ≡ has_grant j p o r
  held_of j v p o r h =
      any_cong (λ d. grant_bit L (image_of L j) (L.place (grant p o r d))) (λ d. placed L j (L.place (grant p o r d)))
      (λ d. leb d 7) depths small
      (λ d k. bit-at_of j _ (W.below (grant p o r d) (search (fst, snd, both))))
      ∙ any_swap (λ d g. eqb (L.place g) (L.place (grant p o r d))) depths j.grants
      ∙ any_cong (λ g. any (λ d. eqb (L.place g) (L.place (grant p o r d))) depths) (is_to p o r) (sound (lives j)) j.grants
      v.grants-sound
      (λ g k. place-to p o r h g (fst (ranged g) _ k))

  pub order_of : (j : Journal) → Inv j → is_in_order L (image_of L j) ≡ true
  unfolding is_in_order
  order_of j v =
      both (live_of j 0 refl ∙ v.root)
      (below_intro L.size _
      (λ k h. by_cases (grant_bit L (image_of L j) k)
      (λ t. let f = find (λ g. eqb (L.place g) k) (sound (lives j)) j.grants v.grants-sound (sym (bit-at_of j k h) ∙ t) in
      let g = f.0 in
      let s : sound (lives j) f.0 ≡ true = f.1 in
      let q : L.place f.0 ≡ k = eqb-true _ _ f.2 in
      let rg : ranged f.0 ≡ true = fst (ranged f.0) _ s in
      let pe : L.person k ≡ f.0.person = ap L.person (sym q) ∙ W.person_of f.0 rg in
      let it : L.item k ≡ f.0.item = ap L.item (sym q) ∙ W.item_of f.0 rg in
      let lp : leb f.0.person 63 ≡ true = search (fst, snd) in
      let li : leb f.0.item 63 ≡ true = search (fst, snd) in
      let ap1 : lives j f.0.person ≡ true = search (fst, snd) in
      let ai : lives j f.0.item ≡ true = search (fst, snd) in
      or_right (not (grant_bit L (image_of L j) k)) _
      (both (ap (live_in L (image_of L j)) pe ∙ live_of j f.0.person lp ∙ ap1)
      (ap (live_in L (image_of L j)) it ∙ live_of j f.0.item li ∙ ai)))
      (λ t. or_left _ _ (ap not t))))

  -- a grant in an image in order names living items
  pub order-live : (s : List ℕ) → is_in_order L s ≡ true → (g : Grant) → ranged g ≡ true → grant_bit L s (L.place g) ≡ true
      → (live_in L s g.person ≡ true) × (live_in L s g.item ≡ true)
  unfolding is_in_order
  order-live s h g rg t =
      let k = below_elim L.size _ (snd (live_in L s 0) _ h) (L.place g) (W.below g rg) in
      let b = rw (t, W.person_of g rg, W.item_of g rg) at k in
      (fst _ _ b, snd (live_in L s g.person) _ b)

  pub guard_of : (j : Journal) → Inv j → (n : ℕ) → guarded L (image_of L j) n ≡ n
  guard_of j v n = rw (eq-eqb _ _ (length_of_lem j), order_of j v)

  -- a check says yes exactly where the journal has a grant, and never beyond the limits
  pub check_of : (j : Journal) → Inv j → (p o r : ℕ) → check_yes L (image_of L j) p o r ≡ has_grant j p o r
  check_of j v p o r =
      by_cases (items p o && right_depth r 0) (λ h. rw (guard_of j v _, h) (held_of j v p o r h))
      (λ h. rw (guard_of j v _, h) (sym (beyond-none j v p o r h)))

  -- a command's number, where the table asks nothing of loans
  pub answer_of_lem : (j : Journal) → Inv j → (c : Command) → LoanFree (arguments_of c).verb
      → answer_of (flat_unit L) (image_of L j) c ≡ answered j c
  answer_of_lem j v c h =
      let a = arguments_of c in
      guard_of j v _
      ∙ by_cases (fits a)
      (λ t. let r = ranged_command a t in
      rw t (table-flat (facts_of L (image_of L j) a) (facts j a) (live_of j _ (le-leb _ 63 r.by)) (live_of j _ (le-leb _ 63 r.on))
      (live_of j _ (le-leb _ 63 r.to)) (members_of_lem j a.set)
      (held_of j v _ _ 0 (both (both (le-leb _ 63 r.by) (le-leb _ 63 r.on)) refl)) a h))
      (λ t. rw t)
      ∙ sym (answered-table j c)

  -- ---- what the commands do to an image, as what they do to the journal
  pub created_of : (j : Journal) → Inv j → (by on : ℕ) → created L (image_of L j) by on ≡ image_of L (apply j (Create by on))
  unfolding image_of
  created_of j v by on =
      build_cong _ _ _ _ (λ i h. ap (λ b. eqb i on || b) (live_of j i h) ∙ sym (lives-create j by on i))
      (λ k h. ap (λ b. eqb (L.place (grant by on 0 0)) k || b) (bit-at_of j k h)
      ∙ sym (any-add (λ g. eqb (L.place g) k) same_grant same_grant_lem (grant by on 0 0) j.grants))

  pub deleted_of : (j : Journal) → Inv j → (by on : ℕ) → deleted L (image_of L j) on ≡ image_of L (apply j (Delete by on))
  unfolding image_of
  deleted_of j v by on =
      build_cong _ _ _ _ (λ i h. ap (λ b. b && not (eqb i on)) (live_of j i h) ∙ sym (lives-delete j by on i))
      (λ k h. ap (λ b. b && not (eqb (L.person k) on || eqb (L.item k) on)) (bit-at_of j k h)
      ∙ sym (any_kept (λ g. eqb (L.place g) k) (λ g. not (names on g)) (sound (lives j)) _ j.grants v.grants-sound
      (λ g s q. let rg : ranged g ≡ true = fst (ranged g) _ s in
      let z : L.place g ≡ k = eqb-true _ _ q in
      rw (← z, W.person_of g rg, W.item_of g rg))))

  pub allowed_of : (j : Journal) → Inv j → (by to on right depth : ℕ)
      → allowed L (image_of L j) (grant to on right depth) ≡ image_of L (apply j (Allow by to on right depth))
  unfolding image_of
  allowed_of j v by to on right depth =
      build_cong _ _ _ _ (λ i h. live_of j i h)
      (λ k h. ap (λ b. eqb (L.place (grant to on right depth)) k || b) (bit-at_of j k h)
      ∙ sym (any-add (λ g. eqb (L.place g) k) same_grant same_grant_lem (grant to on right depth) j.grants))

  pub allowed_set_of : (j : Journal) → Inv j → (by set on right depth : ℕ)
      → allowed_set L (image_of L j) set on right depth ≡ image_of L (apply j (AllowSet by set on right depth))
  unfolding image_of
  allowed_set_of j v by set on right depth =
      let gs = map (λ i. grant i on right depth) (members_of set) in
      build_cong _ _ _ _ (λ i h. live_of j i h ∙ ap (any (eqb i)) (sym (live-granted gs j)))
      (λ k h. ap (λ b. any (λ p. eqb (L.place (grant p on right depth)) k) (members_of set) || b) (bit-at_of j k h)
      ∙ ap (λ b. b || placed L j k) (sym (any-map (λ g. eqb (L.place g) k) (λ i. grant i on right depth) (members_of set)))
      ∙ sym (any-granted (λ g. eqb (L.place g) k) gs j))

  -- an image tells of live items and grants alone
  pub same-image : (j k : Journal) → j.live ≡ k.live → j.grants ≡ k.grants → image_of L j ≡ image_of L k
  unfolding image_of
  same-image j k e d = λ i. build L (λ n. any (eqb n) (e i)) (λ n. any (λ g. eqb (L.place g) n) (d i))

  pub fresh_of_lem : fresh_image L ≡ image_of L fresh
  unfolding image_of fresh fresh_image any
  fresh_of_lem = build_cong _ _ _ _ (λ i h. or-false (eqb i 0)) (λ k h. or-false (eqb (L.place (grant 0 0 0 0)) k))
    where
      or-false : (b : Bool) → b ≡ b || false
      or-false true = refl
      or-false false = refl

-- whom and what a place is about is within the limits
pub places-within : (L : Layout) (H : Whole L) (k : ℕ) → k < L.size → (leb (L.person k) 63 ≡ true) × (leb (L.item k) 63 ≡ true)
places-within L H k h =
    let g = H.grant-at k in
    let r : ranged (H.grant-at k) ≡ true = H.ranged-at k h in
    let p : L.person k ≡ (H.grant-at k).person = ap L.person (sym (H.place_at k h)) ∙ H.laws.person_of (H.grant-at k) r in
    let i : L.item k ≡ (H.grant-at k).item = ap L.item (sym (H.place_at k h)) ∙ H.laws.item_of (H.grant-at k) r in
    let a : leb (H.grant-at k).person 63 ≡ true = search (fst, snd) in
    let b : leb (H.grant-at k).item 63 ≡ true = search (fst, snd) in
    (rw p a, rw i b)

-- ---- the three layouts
ranged_le : (g : Grant) → ranged g ≡ true → (g.person ≤ 63) × (g.item ≤ 63) × (g.right ≤ 7) × (g.depth ≤ 7)
ranged_le g h = search (fst, snd, leb-true)

pub lists-laws : Laws lists
unfolding lists
lists-laws = record {
  wide = omega arith;
  fits = refl;
  below = λ g h. omega (arith, ranged_le g h);
  person_of = λ g h. omega (arith, ranged_le g h);
  item_of = λ g h. omega (arith, ranged_le g h);
  right_of = λ g h. omega (arith, ranged_le g h);
}

pub rows-laws : Laws rows
unfolding rows
rows-laws = record {
  wide = omega arith;
  fits = refl;
  below = λ g h. omega (arith, ranged_le g h);
  person_of = λ g h. omega (arith, ranged_le g h);
  item_of = λ g h. omega (arith, ranged_le g h);
  right_of = λ g h. omega (arith, ranged_le g h);
}

pub bytes_laws : Laws grant_bytes
unfolding grant_bytes
bytes_laws = record {
  wide = omega arith;
  fits = refl;
  below = λ g h. omega (arith, ranged_le g h);
  person_of = λ g h. omega (arith, ranged_le g h);
  item_of = λ g h. omega (arith, ranged_le g h);
  right_of = λ g h. omega (arith, ranged_le g h);
}

-- ---- a place of a chain unit's grants is of one grant
depth_of_lem : (g : Grant) → ranged g ≡ true → grant_bytes.place g % 8 ≡ g.depth
unfolding grant_bytes
depth_of_lem g h = let d : g.depth ≤ 7 = search (fst, snd, leb-true) in omega arith

pub place_same : (g h : Grant) → ranged g ≡ true → ranged h ≡ true → eqb (grant_bytes.place h) (grant_bytes.place g) ≡ same_grant g h
place_same g h r k =
    iff (eqb (grant_bytes.place h) (grant_bytes.place g)) (same_grant g h)
    (λ e. let q : grant_bytes.place h ≡ grant_bytes.place g = eqb-true (grant_bytes.place h) (grant_bytes.place g) e in
    both (both (both (eq-eqb _ _ (sym (bytes_laws.person_of g r) ∙ ap grant_bytes.person (sym q) ∙ bytes_laws.person_of h k))
    (eq-eqb _ _ (sym (bytes_laws.item_of g r) ∙ ap grant_bytes.item (sym q) ∙ bytes_laws.item_of h k)))
    (eq-eqb _ _ (sym (bytes_laws.right_of g r) ∙ ap grant_bytes.right (sym q) ∙ bytes_laws.right_of h k)))
    (eq-eqb _ _ (sym (depth_of_lem g r) ∙ ap (λ (n : ℕ). n % 8) (sym q) ∙ depth_of_lem h k)))
    (λ e. eq-eqb _ _ (ap grant_bytes.place (sym (same_grant_lem g h e))))

pub lists-cells : lists.cells ≡ 513
unfolding lists
lists-cells = refl

pub rows-cells : rows.cells ≡ 4104
unfolding rows
rows-cells = refl
