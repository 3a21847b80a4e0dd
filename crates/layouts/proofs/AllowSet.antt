-- What allowset promises of a unit that holds an image of grants: the same as of the journal, for every image, in order or not. Its number
-- is the lowest of the single allows' behind one guard (`answer-lowest`). Where it is accepted, each single allow leaves an image in
-- order with the same live set (`order-allowed`), so the next is accepted too; and one after another they put in the bits of the same
-- places, in whatever order (`each-allowed`).
use mathlib.Core.Path.{◌≡◌, refl, sym, ap, ◌∙◌}
use mathlib.Core.Bool.{Bool, true, false, ◌&&◌, ◌||◌, false≢true, or_comm}
use mathlib.Core.List.{List, [], ◌∷◌, map, map-map}
use Prim.Native.Nat.{ℕ}
use borrow.Author.Tests.{eqb-true, eq-eqb, ne_eqb}
use lib.ListN.{length}
use lib.Dec.{eqb, leb}
use Rattle.bits.specs.Sets.{any, all}
use Rattle.model.specs.declared.Command.TheVariants.{Allow, AllowSet}
use Rattle.model.specs.Commands.{depths, items, right_depth, arguments_of, members_of, is_empty}
use Rattle.model.specs.Journal.{Grant, grant, lowest}
use Rattle.model.specs.AllowSet.{Orders, AllowsSet}
use Rattle.model.specs.Invariant.{ranged}
use Rattle.layouts.specs.Machine.{Machine, answer_of, step_of}
use Rattle.layouts.specs.Layouts.{Layout, lists, rows, live_in, grant_bit, build, held, is_in_order, allowed, allowed_set, flat_unit}
use Rattle.layouts.specs.Laws.{Laws, Whole}
use Rattle.bits.proofs.Sets.{fst, snd, both, or_left, or_right, any_mono, any-map, any_order, eqb_self}
use Rattle.bits.proofs.Cells.{length-image}
use Rattle.model.proofs.OneByOne.{Singles, one_by_one}
use Rattle.model.proofs.AllowSet.{Team, Ready, answer-lowest, asked, single_done, none_named, everyone}
use Rattle.model.proofs.Commands.{small}
use Rattle.layouts.proofs.Layouts.{live-build, bit-at-build, build_cong}
use Rattle.layouts.proofs.Holding.{Holds}
use Rattle.layouts.proofs.Subjects.{lists-whole, rows_whole}
use Rattle.layouts.proofs.KeepsOrder.{allowed_fit}

-- some list has a member
no-order : (ms : List ℕ) → ((i : ℕ) → any (eqb i) [] ≡ any (eqb i) ms) → eqb (length ms) 0 ≡ false → ⊥
unfolding any
no-order [] o n = false≢true (sym n)
no-order (m ∷ ms) o n = false≢true (o m ∙ or_left (eqb m m) (any (eqb m) ms) (eqb_self m))

module _ (L : Layout) (H : Whole L) where
  W : Laws L
  W = H.laws

  -- ---- one allow, on any image
  module _ (s : List ℕ) (g : Grant) (r : ranged g ≡ true) where
    pub length-allowed : length (allowed L s g) ≡ L.cells
    unfolding build
    length-allowed = length-image L.width L.cells _

    pub live-allowed : (i : ℕ) → leb i 63 ≡ true → live_in L (allowed L s g) i ≡ live_in L s i
    live-allowed i h = live-build L W (live_in L s) _ i h

    pub order-allowed : is_in_order L s ≡ true → live_in L s g.person ≡ true → live_in L s g.item ≡ true
        → is_in_order L (allowed L s g) ≡ true
    order-allowed o p i = (allowed_fit L H s o g r p i).1

  -- what a person holds stays
  held-allowed : (s : List ℕ) (g : Grant) (p o r : ℕ) → items p o && right_depth r 0 ≡ true → held L s p o r ≡ true
      → held L (allowed L s g) p o r ≡ true
  held-allowed s g p o r h t =
      any_mono (λ d. grant_bit L s (L.place (grant p o r d))) (λ d. grant_bit L (allowed L s g) (L.place (grant p o r d)))
      (λ d. leb d 7) depths small
      (λ d k e. bit-at-build L W (live_in L s) _ _ (W.below (grant p o r d) (search (fst, snd, both)))
      ∙ or_right (eqb (L.place g) (L.place (grant p o r d))) (grant_bit L s (L.place (grant p o r d))) e) t

  -- ---- several, one after the other
  unfoldable pub allowed_each : List ℕ → List Grant → List ℕ
  allowed_each s [] = s
  allowed_each s (g ∷ gs) = allowed_each (allowed L s g) gs

  -- the bits of their places, beside those of f
  each_more : (gs : List Grant) (s : List ℕ) (f : ℕ → Bool)
      → allowed_each (build L (live_in L s) (λ k. f k || grant_bit L s k)) gs
      ≡ build L (live_in L s) (λ k. (any (λ g. eqb (L.place g) k) gs || f k) || grant_bit L s k)
  unfolding allowed_each any
  each_more [] s f = refl
  each_more (g ∷ gs) s f =
      ap (λ (x : List ℕ). allowed_each x gs)
      (build_cong L W _ _ _ _ (λ i h. live-build L W (live_in L s) _ i h)
      (λ k h. ap (λ b. eqb (L.place g) k || b) (bit-at-build L W (live_in L s) _ k h) ∙ assoc (eqb (L.place g) k) (f k) (grant_bit L s k)))
      ∙ each_more gs s (λ k. eqb (L.place g) k || f k)
      ∙ build_cong L W _ _ _ _ (λ i h. refl)
      (λ k h. ap (λ b. b || grant_bit L s k) (swap (any (λ g. eqb (L.place g) k) gs) (eqb (L.place g) k) (f k)))
    where
      assoc : (a b c : Bool) → a || (b || c) ≡ (a || b) || c
      assoc true b c = refl
      assoc false b c = refl

      swap : (a b c : Bool) → a || (b || c) ≡ (b || a) || c
      swap true true c = refl
      swap true false c = refl
      swap false true c = refl
      swap false false c = refl

  each-allowed : (g : Grant) (gs : List Grant) (s : List ℕ)
      → allowed_each s (g ∷ gs) ≡ build L (live_in L s) (λ k. any (λ g. eqb (L.place g) k) (g ∷ gs) || grant_bit L s k)
  unfolding allowed_each any
  each-allowed g gs s =
      each_more gs s (λ k. eqb (L.place g) k)
      ∙ build_cong L W _ _ _ _ (λ i h. refl)
      (λ k h. ap (λ b. b || grant_bit L s k) (or_comm (any (λ g. eqb (L.place g) k) gs) (eqb (L.place g) k)))

  -- ---- a unit that holds the image
  module _ {S : Type 0} (M : Machine S) (image : S → List ℕ) (with : S → List ℕ → S) (U : Holds L M image with) (by on right depth : ℕ)
    where
      team : (s : S) (set : ℕ)
          → Team (M.facts s (arguments_of (AllowSet by set on right depth))) (λ i. M.facts s (arguments_of (Allow by i on right depth)))
          (live_in L (image s)) set
      team s set = record {
        by = λ i. U.by s _ ∙ sym (U.by s _);
        on = λ i. U.on s _ ∙ sym (U.on s _);
        edits = λ i. U.edits s _ ∙ sym (U.edits s _);
        to = λ i. U.to s _;
        alone = λ i. U.members s _ ∙ none_named (live_in L (image s));
        about = U.to s _ ∙ sym (U.on s _);
        members = U.members s _;
      }

      -- the state after a single allow
      abbrev with_one : S → ℕ → S
      with_one s i = with s (allowed L (image s) (grant i on right depth))

      -- a person who may be allowed
      abbrev alive : S → ℕ → Bool
      alive s i = leb i 63 && live_in L (image s) i

      -- what every single allow needs, but for its person
      abbrev Able : ℕ → S → Type 0
      Able set s =
          Ready (M.sized s) (M.ordered s) (M.facts s (arguments_of (AllowSet by set on right depth)))
          (arguments_of (AllowSet by set on right depth))

      -- an allow takes nothing away that another needs
      unit_singles : (set : ℕ)
          → Singles (answer_of M) (step_of M) (λ i. Allow by i on right depth) (Able set) alive with_one
          (λ s is. with s (allowed_each (image s) (map (λ i. grant i on right depth) is)))
      unfolding allowed_each
      unit_singles set = record {
        done = λ s i r h. single_done (M.sized s) (M.ordered s) _ _ (live_in L (image s)) by set on right depth (team s set) r i h;
        leaves = λ s i e. rw e (U.allow s by i on right depth);
        still =
            λ s i r h. let g = grant i on right depth in
            let w = grant-within set s i r h in
            let a = arguments_of (AllowSet by set on right depth) in
            let x : leb by 63 ≡ true = let k = r.within in search (fst, snd) in
            let y : leb on 63 ≡ true = let k = r.within in search (fst, snd) in
            let e = U.image_with s (allowed L (image s) g) in
            let l = live-allowed (image s) g w in
            let p = snd (leb i 63) (live_in L (image s) i) h in
            let o = sym (U.on s a) ∙ r.on-lives in
            record {
              size = U.sized s _ r.size (length-allowed (image s) g w);
              order = U.ordered s _ r.order (order-allowed (image s) g w (U.in_order s r.order) p o) l;
              within = r.within;
              by-lives = U.by _ a ∙ rw e (l by x ∙ sym (U.by s a) ∙ r.by-lives);
              on-lives = U.on _ a ∙ rw e (l on y ∙ o);
              edits = U.edits _ a ∙ rw e (held-allowed (image s) g by on 0 (both (both x y) refl) (sym (U.edits s a) ∙ r.edits));
            };
        others =
            λ s i r h n q. both (fst (leb n 63) (live_in L (image s) n) q)
            (rw (U.image_with s (allowed L (image s) (grant i on right depth)))
            (live-allowed (image s) (grant i on right depth) (grant-within set s i r h) n (fst (leb n 63) (live_in L (image s) n) q)
            ∙ snd (leb n 63) (live_in L (image s) n) q));
        nobody = λ s. U.with_image s;
        more = λ s i is. sym (rw (U.image_with s (allowed L (image s) (grant i on right depth))) (U.with_with s _ _));
      }
        where
          grant-within : (set : ℕ) (s : S) (i : ℕ) → Able set s → alive s i ≡ true → ranged (grant i on right depth) ≡ true
          grant-within set s i r h = let k = r.within in let l = fst (leb i 63) (live_in L (image s) i) h in search (fst, snd, both)

      module _ (s : S) (set : ℕ) where
        -- the places of an order are those of the set
        same-places : (persons : List ℕ) → Orders set persons → is_empty set ≡ false
            → allowed_each (image s) (map (λ i. grant i on right depth) persons) ≡ allowed_set L (image s) set on right depth
        same-places [] o n = absurd (no-order (members_of set) o n)
        same-places (p ∷ ps) o n =
            let f : ℕ → Grant = λ i. grant i on right depth in
            each-allowed (f p) (map f ps) (image s)
            ∙ build_cong L W _ _ _ _ (λ i h. refl)
            (λ k h. ap (λ b. b || grant_bit L (image s) k)
            (any-map (λ g. eqb (L.place g) k) f (p ∷ ps) ∙ any_order eqb eqb-true eqb_self (λ i. eqb (L.place (f i)) k) (p ∷ ps) (members_of set) o))

        pub unit_allowset : AllowsSet (answer_of M) (step_of M) ◌≡◌ s by set on right depth
        unit_allowset = record {
          number =
              λ h. answer-lowest (M.sized s) (M.ordered s) (M.facts s (arguments_of (AllowSet by set on right depth)))
              (λ i. M.facts s (arguments_of (Allow by i on right depth))) (live_in L (image s)) by set on right depth (team s set) h
              ∙ ap lowest (sym (map-map (answer_of M s) (λ i. Allow by i on right depth) (members_of set)));
          nothing = λ n. rw (ne_eqb _ 0 n);
          accepted = λ e persons o. let r = ready e in
              (one_by_one (unit_singles set) persons s r.0 (everyone (alive s) set r.1 persons o)).0;
          same =
              λ e persons o. let r = ready e in
              (one_by_one (unit_singles set) persons s r.0 (everyone (alive s) set r.1 persons o)).1 ∙ ap (with s) (same-places persons o r.2)
              ∙ sym (rw e (U.allow-set s by set on right depth));
        }
          where
            ready : answer_of M s (AllowSet by set on right depth) ≡ 0
                → Able set s × (all (alive s) (members_of set) ≡ true) × (is_empty set ≡ false)
            ready e = asked (M.sized s) (M.ordered s) _ _ (live_in L (image s)) by set on right depth (team s set) e

-- lists and rows are such units
pub flat-holds : (L : Layout) → Holds L (flat_unit L) (λ s. s) (λ s x. x)
flat-holds L = record {
  image_with = λ s x. refl;
  with_image = λ s. refl;
  with_with = λ s x y. refl;
  by = λ s a. refl;
  on = λ s a. refl;
  to = λ s a. refl;
  members = λ s a. refl;
  edits = λ s a. refl;
  allow = λ s by to on right depth. refl;
  allow-set = λ s by set on right depth. refl;
  in_order = λ s e. e;
  sized = λ s x e l. eq-eqb (length x) L.cells l;
  ordered = λ s x e o l. o;
}

pub flat_allowset : (L : Layout) → Whole L → (s : List ℕ) (by set on right depth : ℕ)
    → AllowsSet (answer_of (flat_unit L)) (step_of (flat_unit L)) ◌≡◌ s by set on right depth
flat_allowset L H s by set on right depth = unit_allowset L H (flat_unit L) _ _ (flat-holds L) by on right depth s set

pub lists_allowset : (s : List ℕ) (by set on right depth : ℕ)
    → AllowsSet (answer_of (flat_unit lists)) (step_of (flat_unit lists)) ◌≡◌ s by set on right depth
lists_allowset = flat_allowset lists lists-whole

pub rows_allowset : (s : List ℕ) (by set on right depth : ℕ)
    → AllowsSet (answer_of (flat_unit rows)) (step_of (flat_unit rows)) ◌≡◌ s by set on right depth
rows_allowset = flat_allowset rows rows_whole
