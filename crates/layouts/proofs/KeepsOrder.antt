-- No command takes an image of grants out of order, whatever image it was lent: an image that is built is in order where item 0 lives and
-- each place with a bit is about living items (`build_fit`), and every edit builds one.
use mathlib.Core.Path.{◌≡◌, refl, sym, ap, ◌∙◌}
use mathlib.Core.Bool.{Bool, true, false, not, ◌&&◌, ◌||◌, cond}
use mathlib.Core.List.{List}
use Prim.Native.Nat.{ℕ, ◌<◌}
use native.Mathlib.Omega.{arith}
use borrow.Author.Tests.{eqb-true, ltb-true, le-leb}
use lib.ListN.{length}
use lib.Dec.{eqb, leb, ltb}
use Rattle.bits.specs.Sets.{any, all}
use Rattle.bits.proofs.Sets.{by_cases, fst, snd, both, or_left, or_right, either, neither, find, all-and, eqb_self}
use Rattle.bits.proofs.Indexed.{below_intro, below_elim}
use Rattle.bits.proofs.Members.{members-below}
use Rattle.bits.proofs.Cells.{length-image}
use Rattle.model.specs.declared.Command.{Command}
use Rattle.model.specs.declared.Command.TheVariants.{Create, Delete, Allow, Withdraw, Lend, Recall, Shift, AllowSet, Drop, Sweep}
use Rattle.model.specs.Commands.{arguments_of, items, right_depth, members_of}
use Rattle.model.specs.Answers.{answer}
use Rattle.model.specs.Journal.{Grant, grant}
use Rattle.model.specs.Invariant.{ranged}
use Rattle.model.proofs.Invariant.{accepted, named_live, eqb_sym}
use Rattle.layouts.specs.Machine.{answer_of, KeepsOrder}
use Rattle.layouts.specs.Layouts.{Layout, lists, rows, live_in, grant_bit, build, is_in_order, guarded, facts_of, created, deleted, allowed, allowed_set, dropped, withdrawn, after, flat_unit}
use Rattle.layouts.specs.Laws.{Laws, Whole}
use Rattle.layouts.proofs.Layouts.{places-within, live-build, bit-at-build}
use Rattle.layouts.proofs.Subjects.{lists-whole, rows_whole}
use Rattle.layouts.proofs.Drops.{withdrawn-eight}
use Rattle.layouts.proofs.Guarding.{guard_passed, guard_on}
use Rattle.layouts.proofs.Ends.{order_done}

module _ (L : Layout) (H : Whole L) where
  W : Laws L
  W = H.laws

  -- an image has its length and is in order
  abbrev pub Fit : List ℕ → Type 0
  Fit s = (length s ≡ L.cells) × (is_in_order L s ≡ true)

  -- the person and the item of place k live, by f
  abbrev About : (ℕ → Bool) → ℕ → Type 0
  About f k = (f (L.person k) ≡ true) × (f (L.item k) ≡ true)

  build_fit : (f g : ℕ → Bool) → f 0 ≡ true → ((k : ℕ) → k < L.size → g k ≡ true → About f k) → Fit (build L f g)
  unfolding is_in_order
  build_fit f g z h = (
    unfold build in (length-image L.width L.cells _),
    both (live-build L W f g 0 refl ∙ z)
        (below_intro L.size _
        (λ k b. by_cases (grant_bit L (build L f g) k)
        (λ t. let w = places-within L H k b in
        let q = h k b (sym (bit-at-build L W f g k b) ∙ t) in
        or_right (not (grant_bit L (build L f g) k)) _
        (both (live-build L W f g (L.person k) w.0 ∙ q.0) (live-build L W f g (L.item k) w.1 ∙ q.1)))
        (λ t. or_left _ _ (ap not t)))),
  )

  module _ (s : List ℕ) (o : is_in_order L s ≡ true) where
    root : live_in L s 0 ≡ true
    unfolding is_in_order
    root = fst (live_in L s 0) _ o

    old : (k : ℕ) → k < L.size → grant_bit L s k ≡ true → About (live_in L s) k
    unfolding is_in_order
    old k h t =
        let b = rw t at (below_elim L.size _ (snd (live_in L s 0) _ o) k h) in
        (fst _ _ b, snd (live_in L s (L.person k)) _ b)

    -- the place of a grant is about its person and item
    named : (f : ℕ → Bool) (g : Grant) (k : ℕ) → ranged g ≡ true → eqb (L.place g) k ≡ true → f g.person ≡ true → f g.item ≡ true
        → About f k
    named f g k r e p i =
        let q : k ≡ L.place g = sym (eqb-true (L.place g) k e) in
        (rw (q, W.person_of g r) p, rw (q, W.item_of g r) i)

    pub created_fit : (p i : ℕ) → items p i ≡ true → live_in L s p ≡ true → Fit (created L s p i)
    created_fit p i r h =
        let f : ℕ → Bool = λ n. eqb n i || live_in L s n in
        let up : (n : ℕ) → live_in L s n ≡ true → f n ≡ true = λ n. or_right (eqb n i) (live_in L s n) in
        build_fit f _ (up 0 root)
        (λ k b t. either (eqb (L.place (grant p i 0 0)) k) (grant_bit L s k) t
        (λ e. named f (grant p i 0 0) k (both r refl) e (up p h) (or_left (eqb i i) (live_in L s i) (eqb_self i)))
        (λ e. let q = old k b e in (up (L.person k) q.0, up (L.item k) q.1)))

    pub deleted_fit : (i : ℕ) → eqb i 0 ≡ false → Fit (deleted L s i)
    deleted_fit i n =
        build_fit (λ k. live_in L s k && not (eqb k i)) _ (both root (ap not (eqb_sym 0 i ∙ n)))
        (λ k b t. let q = old k b (fst (grant_bit L s k) _ t) in
        let m = neither (eqb (L.person k) i) (eqb (L.item k) i) (flip _ (snd (grant_bit L s k) _ t)) in
        (both q.0 (ap not m.0), both q.1 (ap not m.1)))
      where
        flip : (b : Bool) → not b ≡ true → b ≡ false
        flip true e = sym e
        flip false e = refl

    pub allowed_fit : (g : Grant) → ranged g ≡ true → live_in L s g.person ≡ true → live_in L s g.item ≡ true → Fit (allowed L s g)
    allowed_fit g r p i =
        build_fit (live_in L s) _ root
        (λ k b t. either (eqb (L.place g) k) (grant_bit L s k) t (λ e. named (live_in L s) g k r e p i) (old k b))

    pub allowed_set_fit : (set i r d : ℕ) → leb i 63 && right_depth r d ≡ true → live_in L s i ≡ true
        → all (live_in L s) (members_of set) ≡ true → Fit (allowed_set L s set i r d)
    allowed_set_fit set i r d w h m =
        build_fit (live_in L s) _ root
        (λ k b t. either (any (λ p. eqb (L.place (grant p i r d)) k) (members_of set)) (grant_bit L s k) t
        (λ e. let x = find (λ p. eqb (L.place (grant p i r d)) k) (λ p. ltb p 64 && live_in L s p) (members_of set)
        (all-and (λ p. ltb p 64) (live_in L s) (members_of set) ∙ both (members-below 64 set) m) e in
        let low : leb x.0 63 ≡ true = le-leb x.0 63 (omega (arith, ltb-true x.0 64 (fst (ltb x.0 64) _ x.1))) in
        named (live_in L s) (grant x.0 i r d) k (search (fst, snd, both)) x.2 (snd (ltb x.0 64) _ x.1) h)
        (old k b))

    pub dropped_fit : (g : Grant) → Fit (dropped L s g)
    dropped_fit g = build_fit (live_in L s) _ root (λ k b t. old k b (fst (grant_bit L s k) _ t))

    -- fewer grants and the same live set: in order still
    pub order_dropped : (g : Grant) → is_in_order L (dropped L s g) ≡ true
    order_dropped g = (dropped_fit g).1

    pub withdrawn_fit : (p i r : ℕ) → Fit (withdrawn L s p i r)
    withdrawn_fit p i r =
        rw (withdrawn-eight L W s p i r) (build_fit (live_in L s) _ root (λ k b t. old k b (fst (grant_bit L s k) _ t)))

  -- ---- a unit of one image; commands that it lacks leave the image as it is
  after_fit : (s : List ℕ) → Fit s → (c : Command) → answer (facts_of L s (arguments_of c)) (arguments_of c) ≡ 0 → Fit (after L s (arguments_of c))
  after_fit s h (Create by on) e =
      let k = accepted (facts_of L s (arguments_of (Create by on))) (arguments_of (Create by on)) e in
      created_fit s h.1 by on (let w = k.fits in search (fst, snd, both)) k.by
  after_fit s h (Delete by on) e =
      let k = accepted (facts_of L s (arguments_of (Delete by on))) (arguments_of (Delete by on)) e in
      deleted_fit s h.1 on k.root
  after_fit s h (Allow by to on right depth) e =
      let k = accepted (facts_of L s (arguments_of (Allow by to on right depth))) (arguments_of (Allow by to on right depth)) e in
      let l = named_live (live_in L s on) (live_in L s to) _ k.named in
      allowed_fit s h.1 (grant to on right depth) (let w = k.fits in search (fst, snd, both)) l.1 l.0
  after_fit s h (Withdraw by to on right) e = withdrawn_fit s h.1 to on right
  after_fit s h (AllowSet by set on right depth) e =
      let k = accepted (facts_of L s (arguments_of (AllowSet by set on right depth))) (arguments_of (AllowSet by set on right depth)) e in
      let l = named_live (live_in L s on) (live_in L s on) _ k.named in
      allowed_set_fit s h.1 set on right depth (let w = k.fits in search (fst, snd, both)) l.0 l.2
  after_fit s h (Lend by to on right depth last) e = h
  after_fit s h (Recall by to on right depth last) e = h
  after_fit s h (Shift by now) e = h
  after_fit s h (Drop by to on right depth) e = h
  after_fit s h (Sweep by) e = h

  pub flat_keeps_order : KeepsOrder (flat_unit L)
  flat_keeps_order s c g = go (eqb (answer_of (flat_unit L) s c) 0) refl
    where
      fit : Fit s
      fit = let p = guard_passed (eqb (length s) L.cells) (is_in_order L s) (sym g) in (eqb-true _ _ p.0, p.1)

      go : (b : Bool) → eqb (answer_of (flat_unit L) s c) 0 ≡ b → 0 ≡ guarded L (cond b (after L s (arguments_of c)) s) 0
      go true e =
          let k = after_fit s fit c (sym (guard_on (eqb (length s) L.cells) (is_in_order L s) _ (sym g)) ∙ eqb-true _ _ e) in
          order_done L (after L s (arguments_of c)) k.0 k.1
      go false e = g

pub lists-keep-order : KeepsOrder (flat_unit lists)
lists-keep-order = flat_keeps_order lists lists-whole

pub rows-keep-order : KeepsOrder (flat_unit rows)
rows-keep-order = flat_keeps_order rows rows_whole
