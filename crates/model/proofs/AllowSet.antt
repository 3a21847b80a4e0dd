-- What allowset promises of the journal. The rows of the table give allowset the lowest number that a single allow of a member gets,
-- since of these numbers only 5 asks who the person is (`answer-lowest`). Where none is refused, every single allow is accepted,
-- whichever were done before it: an allow takes nothing away that another needs (`one_by_one`, over any state). What is left is a set of
-- grants, in which the order of the allows does not show (`any-granted`).
use mathlib.Core.Path.{◌≡◌, refl, sym, ap, ◌∙◌}
use mathlib.Core.Bool.{Bool, true, false, not, ◌&&◌, ◌||◌, cond, false≢true, and-true, not-not}
use mathlib.Core.List.{List, [], ◌∷◌, map, map-map}
use Prim.Native.Nat.{ℕ, min}
use native.Mathlib.Omega.{arith}
use borrow.Author.Tests.{eqb-true, ne_eqb, le-leb, ltb-true}
use lib.ListN.{length}
use lib.Dec.{eqb, leb, ltb}
use Rattle.bits.specs.Sets.{any, all}
use Rattle.model.specs.declared.Command.{Command}
use Rattle.model.specs.declared.Command.TheVariants.{Create, Delete, Allow, Withdraw, Lend, Recall, Shift, AllowSet, Drop, Sweep}
use Rattle.model.specs.declared.Facts.{Facts}
use Rattle.model.specs.declared.Arguments.{Arguments}
use Rattle.model.specs.Commands.{right_depth, arguments_of, fits, members_of, is_empty}
use Rattle.model.specs.Answers.{answer, ◌when◌else◌}
use Rattle.model.specs.Journal.{Grant, Journal, grant, same_grant, is_to, lives, has_grant, facts, tabled, answered, lowest, granted, granted_all, step}
use Rattle.model.specs.AllowSet.{Orders, SameSets, AllowsSet}
use Rattle.bits.proofs.Sets.{by_cases, fst, snd, both, or_right, all_mono, all-and, all-add, any-map, any-add, all_from, all-at, any_order, eqb_self}
use Rattle.bits.proofs.Members.{members-below, members-zero}
use Rattle.model.proofs.Invariant.{same_grant_lem, passed, accepted, named_live}
use Rattle.model.proofs.OneByOne.{Singles, one_by_one}

-- ---- the number
-- what the guard and the rows of an allow give, by the facts that they ask
abbrev row : (sized ordered within by on person edits : Bool) → ℕ
row z d w b o p e =
    1 when not z else 2 when not d else 3 when not w else 4 when not b else 5 when not (o && p) else 8 when not e else 0

-- of such numbers the lowest is the one where everyone must live
lowest-rows : (z d w b o e : Bool) (p : ℕ → Bool) (i : ℕ) (is : List ℕ)
    → lowest (map (λ k. row z d w b o (p k) e) (i ∷ is)) ≡ row z d w b o (all p (i ∷ is)) e
unfolding lowest all
lowest-rows z d w b o e p i [] = last z d w b o (p i) e
  where
    last : (z d w b o y e : Bool) → cond (eqb (row z d w b o y e) 0) 0 (row z d w b o y e) ≡ row z d w b o (y && true) e
    last false d w b o y e = refl
    last true false w b o y e = refl
    last true true false b o y e = refl
    last true true true false o y e = refl
    last true true true true false y e = refl
    last true true true true true false e = refl
    last true true true true true true false = refl
    last true true true true true true true = refl
lowest-rows z d w b o e p i (k ∷ is) = rw (lowest-rows z d w b o e p k is) (more z d w b o (p i) (all p (k ∷ is)) e)
  where
    more : (z d w b o x y e : Bool)
        → cond (eqb (row z d w b o x e) 0) (row z d w b o y e)
        (cond (eqb (row z d w b o y e) 0) (row z d w b o x e) (min (row z d w b o x e) (row z d w b o y e)))
        ≡ row z d w b o (x && y) e
    more false d w b o x y e = refl
    more true false w b o x y e = refl
    more true true false b o x y e = refl
    more true true true false o x y e = refl
    more true true true true false x y e = refl
    more true true true true true false false e = refl
    more true true true true true false true false = refl
    more true true true true true false true true = refl
    more true true true true true true false false = refl
    more true true true true true true false true = refl
    more true true true true true true true false = refl
    more true true true true true true true true = refl

-- numbers that are the same for every member
lowest_cong : (f g : ℕ → ℕ) (q : ℕ → Bool) (is : List ℕ) → all q is ≡ true → ((i : ℕ) → q i ≡ true → f i ≡ g i)
    → lowest (map f is) ≡ lowest (map g is)
unfolding lowest all
lowest_cong f g q [] h e = refl
lowest_cong f g q (i ∷ is) h e =
    rw (e i (fst (q i) (all q is) h), lowest_cong f g q is (snd (q i) (all q is) h) e)

-- the facts f of an allowset, and F i of the single allow of i: they differ in who must live alone
pub record Team (f : Facts) (F : ℕ → Facts) (alive : ℕ → Bool) (set : ℕ) : Type 0 where
  pub by : (i : ℕ) → (F i).by ≡ f.by
  pub on : (i : ℕ) → (F i).on ≡ f.on
  pub edits : (i : ℕ) → (F i).edits ≡ f.edits
  pub to : (i : ℕ) → (F i).to ≡ alive i
  pub alone : (i : ℕ) → (F i).members ≡ true
  pub about : f.to ≡ f.on
  pub members : f.members ≡ all alive (members_of set)

-- a member is within the limits
members-within : (set : ℕ) → all (λ i. leb i 63) (members_of set) ≡ true
members-within set =
    all_mono (λ i. ltb i 64) (λ i. leb i 63) (members_of set) (members-below 64 set) (λ i h. le-leb i 63 (omega (arith, ltb-true i 64 h)))

-- so the limits of its allow are those of the set's
fits_single : (by set on right depth i : ℕ) → leb i 63 ≡ true
    → fits (arguments_of (Allow by i on right depth)) ≡ fits (arguments_of (AllowSet by set on right depth))
fits_single by set on right depth i h = rw h (go (leb by 63) (leb on 63) (right_depth right depth))
  where
    go : (x y r : Bool) → (x && true) && (true && y) && r && true ≡ (x && y) && (y && y) && r && true
    go true true r = refl
    go true false r = refl
    go false y r = refl

-- what every single allow of an allowset needs, but for its person: a state that may be read, and these of the allowset's facts
pub record Ready (sized ordered : Bool) (f : Facts) (a : Arguments) : Type 0 where
  pub size : sized ≡ true
  pub order : ordered ≡ true
  pub within : fits a ≡ true
  pub by-lives : f.by ≡ true
  pub on-lives : f.on ≡ true
  pub edits : f.edits ≡ true

-- the table's number of an allowset, behind a guard that lets everything or nothing through
module _ (z d : Bool) (f : Facts) (F : ℕ → Facts) (alive : ℕ → Bool) (by set on right depth : ℕ) (t : Team f F alive set) where
  behind : ℕ → ℕ
  behind n = 1 when not z else 2 when not d else n

  single_row : (i : ℕ) → leb i 63 ≡ true
      → behind (answer (F i) (arguments_of (Allow by i on right depth)))
      ≡ row z d (fits (arguments_of (AllowSet by set on right depth))) f.by f.on (alive i) f.edits
  unfolding behind
  single_row i h =
      rw (fits_single by set on right depth i h, t.by i, t.on i, t.to i, t.alone i, t.edits i, and-true (f.on && alive i))

  pub answer-lowest : is_empty set ≡ false
      → (1 when not z else 2 when not d else answer f (arguments_of (AllowSet by set on right depth)))
      ≡ lowest (map (λ i. 1 when not z else 2 when not d else answer (F i) (arguments_of (Allow by i on right depth))) (members_of set))
  unfolding behind
  answer-lowest h =
      rw (h, t.about, t.members, twice f.on (all alive (members_of set)))
      (sym (some (members_of set) h) ∙ sym (lowest_cong _ _ (λ i. leb i 63) (members_of set) (members-within set) single_row))
    where
      twice : (x y : Bool) → x && x && y ≡ x && y
      twice true y = refl
      twice false y = refl

      some : (is : List ℕ) → eqb (length is) 0 ≡ false
          → lowest (map (λ k. row z d (fits (arguments_of (AllowSet by set on right depth))) f.by f.on (alive k) f.edits) is)
          ≡ row z d (fits (arguments_of (AllowSet by set on right depth))) f.by f.on (all alive is) f.edits
      some [] e = absurd (false≢true (sym e))
      some (i ∷ is) e = lowest-rows z d (fits (arguments_of (AllowSet by set on right depth))) f.by f.on f.edits alive i is

  -- a person who may be allowed
  abbrev may : ℕ → Bool
  may i = leb i 63 && alive i

  -- what an accepted allowset has been asked
  pub asked : (1 when not z else 2 when not d else answer f (arguments_of (AllowSet by set on right depth))) ≡ 0
      → Ready z d f (arguments_of (AllowSet by set on right depth)) × (all may (members_of set) ≡ true) × (is_empty set ≡ false)
  asked e =
      let p1 = passed 0 z _ e in
      let p2 = passed 1 d _ p1.1 in
      let k = accepted f (arguments_of (AllowSet by set on right depth)) p2.1 in
      let l = named_live f.on f.to f.members k.named in
      let n = sym (not-not f.edits) ∙ ap not k.edits in (
        record { size = p1.0; order = p2.0; within = k.fits; by-lives = k.by; on-lives = l.0; edits = n },
        all-and (λ i. leb i 63) alive (members_of set) ∙ both (members-within set) (sym t.members ∙ l.2),
        k.empty,
      )

  -- and so a single allow is done
  pub single_done : Ready z d f (arguments_of (AllowSet by set on right depth)) → (i : ℕ) → may i ≡ true
      → (1 when not z else 2 when not d else answer (F i) (arguments_of (Allow by i on right depth))) ≡ 0
  unfolding behind
  single_done r i h =
      single_row i (fst (leb i 63) (alive i) h)
      ∙ rw (r.size, r.order, r.within, r.by-lives, r.on-lives, snd (leb i 63) (alive i) h, r.edits)

-- a command without a set names no member
pub none_named : (alive : ℕ → Bool) → all alive (members_of 0) ≡ true
unfolding all
none_named alive = ap (all alive) (members-zero 64)

-- ---- the journal's number is the table's
journal_team : (j : Journal) (by set on right depth : ℕ)
    → Team (facts j (arguments_of (AllowSet by set on right depth))) (λ i. facts j (arguments_of (Allow by i on right depth))) (lives j) set
journal_team j by set on right depth = record {
  by = λ i. refl;
  on = λ i. refl;
  edits = λ i. refl;
  to = λ i. refl;
  alone = λ i. none_named (lives j);
  about = refl;
  members = refl;
}

tabled-lowest : (j : Journal) (by set on right depth : ℕ) → is_empty set ≡ false
    → tabled j (AllowSet by set on right depth) ≡ lowest (map (λ i. tabled j (Allow by i on right depth)) (members_of set))
tabled-lowest j by set on right depth h =
    answer-lowest true true (facts j (arguments_of (AllowSet by set on right depth)))
    (λ i. facts j (arguments_of (Allow by i on right depth))) (lives j) by set on right depth (journal_team j by set on right depth) h

pub answered-table : (j : Journal) (c : Command) → answered j c ≡ tabled j c
answered-table j (Create by on) = refl
answered-table j (Delete by on) = refl
answered-table j (Allow by to on right depth) = refl
answered-table j (Withdraw by to on right) = refl
answered-table j (Lend by to on right depth last) = refl
answered-table j (Recall by to on right depth last) = refl
answered-table j (Shift by now) = refl
answered-table j (Drop by to on right depth) = refl
answered-table j (Sweep by) = refl
answered-table j (AllowSet by set on right depth) =
    by_cases (is_empty set) (λ h. rw h)
    (λ h. by_cases (fits (arguments_of (AllowSet by set on right depth)))
    (λ k. rw (h, k) (ap lowest (map-map (tabled j) (λ i. Allow by i on right depth) (members_of set))
    ∙ sym (tabled-lowest j by set on right depth h) ∙ rw (h, k))) (λ k. rw k))

-- ---- what an accepted allowset leaves
pub any-granted : (p : Grant → Bool) (gs : List Grant) (j : Journal) → any p (granted_all j gs).grants ≡ any p gs || any p j.grants
unfolding any
any-granted p [] j = refl
any-granted p (g ∷ gs) j =
    any-granted p gs (granted j g)
    ∙ rw (any-add p same_grant same_grant_lem g j.grants) (swap (p g) (any p gs) (any p j.grants))
  where
    swap : (a b c : Bool) → b || (a || c) ≡ (a || b) || c
    swap true true c = refl
    swap true false c = refl
    swap false true c = refl
    swap false false c = refl

pub live-granted : (gs : List Grant) (j : Journal) → (granted_all j gs).live ≡ j.live
live-granted [] j = refl
live-granted (g ∷ gs) j = live-granted gs (granted j g)

pub loans-granted : (gs : List Grant) (j : Journal) → (granted_all j gs).loans ≡ j.loans
loans-granted [] j = refl
loans-granted (g ∷ gs) j = loans-granted gs (granted j g)

pub shift-granted : (gs : List Grant) (j : Journal) → (granted_all j gs).shift ≡ j.shift
shift-granted [] j = refl
shift-granted (g ∷ gs) j = shift-granted gs (granted j g)

-- each grant passes a test
pub all-granted : (q : Grant → Bool) (gs : List Grant) (j : Journal) → all q gs ≡ true → all q j.grants ≡ true
    → all q (granted_all j gs).grants ≡ true
unfolding all
all-granted q [] j h k = k
all-granted q (g ∷ gs) j h k =
    all-granted q gs (granted j g) (snd (q g) (all q gs) h) (all-add q same_grant g j.grants (fst (q g) (all q gs) h) k)

-- ---- in any order: each person of an order is a member
pub everyone : (q : ℕ → Bool) (set : ℕ) → all q (members_of set) ≡ true → (persons : List ℕ) → Orders set persons → all q persons ≡ true
everyone q set h persons o = all_from q persons (λ i e. all-at q (members_of set) h i (sym (o i) ∙ e))

-- ---- the journal
-- a person who may be allowed
abbrev pub alive : Journal → ℕ → Bool
alive j i = leb i 63 && lives j i

module _ (by on right depth : ℕ) where
  -- what every single allow needs, but for its person
  abbrev pub Able : ℕ → Journal → Type 0
  Able set j =
      Ready true true (facts j (arguments_of (AllowSet by set on right depth))) (arguments_of (AllowSet by set on right depth))

  -- what an accepted allowset has been asked
  pub ready : (j : Journal) (set : ℕ) → answered j (AllowSet by set on right depth) ≡ 0
      → Able set j × (all (alive j) (members_of set) ≡ true) × (is_empty set ≡ false)
  ready j set e =
      asked true true _ _ (lives j) by set on right depth (journal_team j by set on right depth)
      (sym (answered-table j (AllowSet by set on right depth)) ∙ e)

  journal_singles : (set : ℕ)
      → Singles answered step (λ i. Allow by i on right depth) (Able set) alive (λ j i. granted j (grant i on right depth))
      (λ j is. granted_all j (map (λ i. grant i on right depth) is))
  journal_singles set = record {
    done = λ j i r h. single_done true true _ _ (lives j) by set on right depth (journal_team j by set on right depth) r i h;
    leaves = λ j i e. rw e;
    still =
        λ j i r h. record {
          size = refl;
          order = refl;
          within = r.within;
          by-lives = r.by-lives;
          on-lives = r.on-lives;
          edits =
              any-add (is_to by on 0) same_grant same_grant_lem (grant i on right depth) j.grants
              ∙ or_right (is_to by on 0 (grant i on right depth)) (has_grant j by on 0) r.edits;
        };
    others = λ j i r h k q. q;
    nobody = λ j. refl;
    more = λ j i is. refl;
  }

  pub journal_allowset : (j : Journal) (set : ℕ) → AllowsSet answered step SameSets j by set on right depth
  journal_allowset j set = record {
    number =
        λ h. answered-table j (AllowSet by set on right depth) ∙ tabled-lowest j by set on right depth h
        ∙ ap lowest (sym (map-map (answered j) (λ i. Allow by i on right depth) (members_of set)));
    nothing = λ n. rw (ne_eqb _ 0 n);
    accepted =
        λ e persons o. let r = ready j set e in
        (one_by_one (journal_singles set) persons j r.0 (everyone (alive j) set r.1 persons o)).0;
    same =
        λ e persons o. let r = ready j set e in
        rw ((one_by_one (journal_singles set) persons j r.0 (everyone (alive j) set r.1 persons o)).1, e) (equal persons o);
  }
    where
      equal : (persons : List ℕ) → Orders set persons
          → SameSets (granted_all j (map (λ i. grant i on right depth) persons))
          (granted_all j (map (λ i. grant i on right depth) (members_of set)))
      equal persons o =
          let f : ℕ → Grant = λ i. grant i on right depth in
          record {
            live = live-granted (map f persons) j ∙ sym (live-granted (map f (members_of set)) j);
            grants =
                λ g. any-granted (same_grant g) (map f persons) j
                ∙ ap (λ b. b || any (same_grant g) j.grants)
                (any-map (same_grant g) f persons ∙ any_order eqb eqb-true eqb_self (λ i. same_grant g (f i)) persons (members_of set) o
                ∙ sym (any-map (same_grant g) f (members_of set)))
                ∙ sym (any-granted (same_grant g) (map f (members_of set)) j);
            loans = loans-granted (map f persons) j ∙ sym (loans-granted (map f (members_of set)) j);
            shift = shift-granted (map f persons) j ∙ sym (shift-granted (map f (members_of set)) j);
          }
