-- What drop and withdraw promise of the journal. Drops one after another keep the grants that none of them names, and the loans whose lender
-- still has a grant of their item and right, or had none (`dropped_is`), so their order does not show and eight of them, one of each
-- depth, are withdraw. A drop asks what withdraw asks, and it takes nothing away
-- that another needs unless it is an edit grant of by's (`still`).
use mathlib.Core.Path.{◌≡◌, refl, sym, ap, ◌∙◌, subst}
use mathlib.Core.Bool.{Bool, true, false, not, ◌&&◌, ◌||◌, cond, false≢true, and-true, or-false}
use mathlib.Core.List.{List, [], ◌∷◌, map}
use mathlib.Core.Logic.{◌↔◌}
use Prim.Native.Nat.{ℕ, ◌≤◌}
use borrow.Author.Tests.{eqb-true, ne_eqb, leb-true, le-leb}
use lib.Dec.{eqb, leb}
use Rattle.bits.specs.Sets.{any, all, keep}
use Rattle.model.specs.declared.Command.{Command}
use Rattle.model.specs.declared.Command.TheVariants.{Withdraw, Drop}
use Rattle.model.specs.declared.Facts.{Facts}
use Rattle.model.specs.Commands.{depths, items, right_depth, arguments_of}
use Rattle.model.specs.Answers.{answer}
use Rattle.model.specs.Journal.{Grant, Loan, Journal, grant, same_grant, is_to, is_from, lives, standing, facts, answered, less_grant, last_ends, dropped, dropped_all, of_each_depth, apply, step}
use Rattle.model.specs.AllowSet.{Accepts, one, finally}
use Rattle.model.specs.Drop.{GreatestDepth, Dropping, drop_of, SameGrants, grants_in, Drops, Withdraws, DropsCommute}
use Rattle.model.specs.Invariant.{ranged, sound, Inv, sound_loan, LoanInv}
use Rattle.bits.proofs.Sets.{iff, by_cases, fst, snd, both, or_left, find, all_mono, all_keep, all_true, all_in, any_kept, any_fewer, any_less, any-map, any_same, any_order, keep_cong, keep_all, keep-keep, eqb_self}
use Rattle.model.proofs.Commands.{depth_in, small}
use Rattle.model.proofs.OneByOne.{Singles, one_by_one}
use Rattle.model.proofs.Invariant.{same_grant_lem, grant_self, eqb_sym, accepted, keep-loans}
use Rattle.model.proofs.Ending as ending

-- ---- drops, one after another
-- a grant is among these
abbrev pub among : List Grant → Grant → Bool
among gs h = any (λ g. same_grant g h) gs

-- the journal with these of its grants: the loans whose lender had one of their item and right and has none now have ended
abbrev pub with_grants : Journal → List Grant → Journal
with_grants j hs = record {
  live = j.live;
  grants = hs;
  loans = keep (λ l. not (last_ends j.grants hs l.lender l.item l.right)) j.loans;
  shift = j.shift;
}

abbrev without : Journal → List Grant → Journal
without j gs = with_grants j (keep (λ h. not (among gs h)) j.grants)

-- what p has on o, right r, among some grants
abbrev held_in : List Grant → ℕ → ℕ → ℕ → Bool
held_in gs p o r = any (is_to p o r) gs

-- a grant of another person, item or right takes nothing from what p holds
pub held_less : (g : Grant) (p o r : ℕ) → is_to p o r g ≡ false → (gs : List Grant) → held_in (less_grant gs g) p o r ≡ held_in gs p o r
held_less g p o r n gs =
    any_kept (is_to p o r) (λ x. not (same_grant g x)) (λ x. true) true gs (all_true gs)
    (λ x k e. by_cases (same_grant g x) (λ t. absurd (false≢true (sym n ∙ ap (is_to p o r) (same_grant_lem g x t) ∙ e))) (λ t. ap not t))
    ∙ and-true (held_in gs p o r)

-- the loans that drops end, one after another (Ending)
module _ where
  others : (gs : List Grant) (g : Grant) → true ≡ true → (l : Loan) → is_from g.person g.item g.right l ≡ false
      → held_in (less_grant gs g) l.lender l.item l.right ≡ held_in gs l.lender l.item l.right
  others gs g k l n =
      held_less g l.lender l.item l.right
      (rw (eqb_sym g.person l.lender, eqb_sym g.item l.item, eqb_sym g.right l.right) n) gs

  fewer : (gs : List Grant) (g : Grant) → true ≡ true → (l : Loan) → held_in (less_grant gs g) l.lender l.item l.right ≡ true
      → held_in gs l.lender l.item l.right ≡ true
  fewer gs g k l h = any_fewer (is_to l.lender l.item l.right) (λ x. not (same_grant g x)) gs h

  abbrev less_all : List Grant → List Grant → List Grant
  less_all =
      ending.less_all held_in (λ (l : Loan). l.lender) (λ (l : Loan). l.item) (λ (l : Loan). l.right) less_grant (λ g. true) fewer others

  abbrev loans_left : List Grant → List Grant → List Loan → List Loan
  loans_left =
      ending.left held_in (λ (l : Loan). l.lender) (λ (l : Loan). l.item) (λ (l : Loan). l.right) less_grant (λ g. true) fewer others

  loans-left : (gs hs : List Grant) (ls : List Loan)
      → loans_left gs hs ls ≡ keep (λ l. not (last_ends gs (less_all gs hs) l.lender l.item l.right)) ls
  loans-left gs hs ls =
      ending.left_is held_in (λ (l : Loan). l.lender) (λ (l : Loan). l.item) (λ (l : Loan). l.right) less_grant (λ g. true) fewer others
      hs gs ls (all_true hs)

  -- the grants and the loans, each by their own drops
  each-dropped : (gs : List Grant) (j : Journal) → dropped_all j gs
      ≡ record { live = j.live; grants = less_all j.grants gs; loans = loans_left j.grants gs j.loans; shift = j.shift }
  each-dropped [] j = refl
  each-dropped (g ∷ gs) j = each-dropped gs (dropped j g)

all_less : (gs hs : List Grant) → less_all hs gs ≡ keep (λ h. not (among gs h)) hs
unfolding any
all_less [] hs = sym (keep_all (λ h. true) hs (all_true hs))
all_less (g ∷ gs) hs =
    all_less gs (less_grant hs g)
    ∙ keep-keep (λ h. not (among gs h)) (λ h. not (same_grant g h)) hs
    ∙ keep_cong _ _ (λ h. true) hs (all_true hs) (λ h k. joined (same_grant g h) (among gs h))
  where
    joined : (x y : Bool) → not x && not y ≡ not (x || y)
    joined true y = refl
    joined false y = refl

-- what is left is told by the grants that are
pub dropped_is : (gs : List Grant) (j : Journal) → dropped_all j gs ≡ without j gs
dropped_is gs j =
    each-dropped gs j
    ∙ ap (λ (ls : List Loan). record { live = j.live; grants = less_all j.grants gs; loans = ls; shift = j.shift })
    (loans-left j.grants gs j.loans)
    ∙ ap (with_grants j) (all_less gs j.grants)

-- the order of the grants does not show
pub order-free : (gs hs : List Grant) → SameGrants gs hs → (j : Journal) → dropped_all j gs ≡ dropped_all j hs
order-free gs hs s j =
    dropped_is gs j
    ∙ ap (with_grants j)
    (keep_cong _ _ (λ h. true) j.grants (all_true j.grants)
    (λ h k. ap not (any_order same_grant same_grant_lem grant_self (λ g. same_grant g h) gs hs s)))
    ∙ sym (dropped_is hs j)

-- what every journal keeps of its grants
pub ended-inv : (j : Journal) (gs : List Grant) → Inv j → Inv (dropped_all j gs)
ended-inv j gs v =
    subst Inv (sym (dropped_is gs j))
    (record {
      root = v.root;
      grants-sound =
          all_mono _ (sound (lives j)) _ (all_keep (sound (lives j)) (λ h. not (among gs h)) j.grants v.grants-sound)
          (λ g h. fst (sound (lives j) g) (not (among gs g)) h);
    })

-- and of its loans
pub ended-loans : (j : Journal) (gs : List Grant) → LoanInv j → LoanInv (dropped_all j gs)
ended-loans j gs v =
    subst LoanInv (sym (dropped_is gs j))
    (let f : Loan → Bool = λ l. not (last_ends j.grants (without j gs).grants l.lender l.item l.right) in
    let k = keep-loans j f v in
    record {
      loans-sound = all_mono _ (sound_loan (lives j)) _ k.0 (λ l h. fst (sound_loan (lives j) l) (f l) h);
      loans-distinct = k.1;
      loans_few = k.2;
      shift_in = v.shift_in;
    })

-- no loan comes
pub none_dropped : (p : Loan → Bool) (gs : List Grant) (j : Journal) → any p j.loans ≡ false → any p (dropped_all j gs).loans ≡ false
none_dropped p gs j h = ap (λ (i : Journal). any p i.loans) (dropped_is gs j) ∙ any_less p _ j.loans h

-- ---- withdraw
-- a grant within the limits is of some depth
pub each-depth : (p o r : ℕ) (h : Grant) → leb h.depth 7 ≡ true → among (of_each_depth p o r) h ≡ is_to p o r h
each-depth p o r h k =
    any-map (λ g. same_grant g h) (λ d. grant p o r d) depths
    ∙ iff _ _
    (λ e. let f = find (λ d. same_grant (grant p o r d) h) (λ d. leb d 7) depths small e in
    ap (is_to p o r) (sym (same_grant_lem (grant p o r f.0) h f.2)) ∙ both (both (eqb_self p) (eqb_self o)) (eqb_self r))
    (λ e. any_same (λ d. same_grant (grant p o r d) h) eqb eqb-true h.depth depths (depth_in h.depth k)
    (let a : eqb h.person p ≡ true = search (fst, snd) in
    let b : eqb h.item o ≡ true = search (fst, snd) in
    let c : eqb h.right r ≡ true = search (fst, snd) in
    both (both (both (eqb_sym p h.person ∙ a) (eqb_sym o h.item ∙ b)) (eqb_sym r h.right ∙ c)) (eqb_self h.depth)))

-- the eight grants are within the limits
pub eight-ranged : (p o r : ℕ) → items p o && right_depth r 0 ≡ true → all ranged (of_each_depth p o r) ≡ true
unfolding all
eight-ranged p o r w = go depths small
  where
    go : (ds : List ℕ) → all (λ d. leb d 7) ds ≡ true → all ranged (map (λ d. grant p o r d) ds) ≡ true
    go [] h = refl
    go (d ∷ ds) h =
        let k : leb d 7 ≡ true = fst (leb d 7) (all (λ d. leb d 7) ds) h in
        let q : ranged (grant p o r d) ≡ true = search (fst, snd, both) in
        both q (go ds (snd (leb d 7) (all (λ d. leb d 7) ds) h))

-- 'every depth granted to that person there ends', and no other grant
pub withdraw-grants : (j : Journal) → Inv j → (by to on right : ℕ)
    → (apply j (Withdraw by to on right)).grants ≡ keep (λ g. not (is_to to on right g)) j.grants
withdraw-grants j v by to on right =
    ap (λ (i : Journal). i.grants) (dropped_is (of_each_depth to on right) j)
    ∙ keep_cong _ _ (sound (lives j)) j.grants v.grants-sound (λ h k. ap not (each-depth to on right h (search (fst, snd))))

-- ---- a drop's number
-- 'withdraw's refusals', wherever the facts are the same
pub drop-answer : (f g : Facts) → f.by ≡ g.by → f.on ≡ g.on → f.to ≡ g.to → f.members ≡ g.members → f.edits ≡ g.edits
    → (by to on right depth : ℕ) → depth ≤ 7
    → answer f (arguments_of (Drop by to on right depth)) ≡ answer g (arguments_of (Withdraw by to on right))
drop-answer f g b o t m e by to on right depth h = rw (b, o, t, m, e, le-leb depth 7 h)

-- 'and 3 for the depth'
pub drop-beyond : (f : Facts) (by to on right depth : ℕ) → (depth ≤ 7 → ⊥) → answer f (arguments_of (Drop by to on right depth)) ≡ 3
drop-beyond f by to on right depth n =
    by_cases (leb depth 7) (λ h. absurd (n (leb-true depth 7 h))) (λ h. rw h (last (items by to && items to on) (leb right 7) _))
  where
    last : (x y : Bool) (n : ℕ) → cond (not (x && (y && false) && true)) 3 n ≡ 3
    last true true n = refl
    last true false n = refl
    last false y n = refl

-- a grant to another, or of another right, is no edit grant of by's
pub not_own : (by to on right depth : ℕ) → eqb by to && eqb right 0 ≡ false → is_to by on 0 (grant to on right depth) ≡ false
not_own by to on right depth n =
    by_cases (is_to by on 0 (grant to on right depth))
    (λ t. let x : eqb to by ≡ true = search (fst, snd) in
    let y : eqb right 0 ≡ true = search (fst, snd) in
    absurd (false≢true (sym n ∙ both (eqb_sym by to ∙ x) y)))
    (λ t. t)

-- ---- what follows where one grant ends
-- stands tells the grants before, and left those after
module _ (stands left : Grant → Bool) (to on right depth : ℕ) (w : items to on && right_depth right 0 ≡ true)
    (ends : (g : Grant) → ranged g ≡ true → left g ≡ stands g && not (same_grant (grant to on right depth) g)) where
  -- of the person's grants there all stay but the one of that depth
  there : (d : ℕ) → d ≤ 7 → left (grant to on right d) ≡ stands (grant to on right d) && not (eqb d depth)
  there d k =
      let b : leb d 7 ≡ true = le-leb d 7 k in
      let s : same_grant (grant to on right depth) (grant to on right d) ≡ eqb d depth
      = rw (eqb_self to, eqb_self on, eqb_self right) (eqb_sym depth d) in
      ends (grant to on right d) (search (fst, snd, both)) ∙ ap (λ b. stands (grant to on right d) && not b) s

  pub greatest-left : (d : ℕ) → GreatestDepth left to on right d
      ↔ GreatestDepth (λ g. stands g && not (eqb g.depth depth)) to on right d
  greatest-left d = (
    λ x. record { within = x.within; standing = sym (there d x.within) ∙ x.standing; most = λ e k t. x.most e k (there e k ∙ t) },
    λ x. record {
      within = x.within;
      standing = there d x.within ∙ x.standing;
      most = λ e k t. x.most e k (sym (there e k) ∙ t);
    },
  )

-- drops, each accepted, in any state in which a drop takes one grant out
module _ {S : Type 0} (answer : S → Command → ℕ) (next : S → Command → S) (one_less : S → Grant → S) (less : S → List Grant → S)
    (nil : (s : S) → less s [] ≡ s) (cons : (s : S) (g : Grant) (gs : List Grant) → less s (g ∷ gs) ≡ less (one_less s g) gs)
    (drop : (s : S) (d : Dropping) → answer s (drop_of d) ≡ 0 → next s (drop_of d) ≡ one_less s d.ended) where
  pub drops_leave : (ds : List Dropping) (s : S) → Accepts answer next s (map drop_of ds)
      → finally answer next s (map drop_of ds) ≡ less s (grants_in ds)
  drops_leave [] s a = sym (nil s)
  drops_leave (d ∷ ds) s (one e r) =
      drops_leave ds (next s (drop_of d)) r ∙ ap (λ t. less t (grants_in ds)) (drop s d e) ∙ sym (cons s d.ended (grants_in ds))

-- ---- of the journal
pub stepped : (j : Journal) (c : Command) → answered j c ≡ 0 → step j c ≡ apply j c
stepped j c e = rw e

journal_leaves : (ds : List Dropping) (j : Journal) → Accepts answered step j (map drop_of ds)
    → finally answered step j (map drop_of ds) ≡ dropped_all j (grants_in ds)
journal_leaves =
    drops_leave answered step dropped dropped_all (λ j. refl) (λ j g gs. refl) (λ j d e. stepped j (drop_of d) e)

pub journal_commute : (j : Journal) → DropsCommute answered step standing (λ i n. n) j
journal_commute j ds es s a b = journal_leaves ds j a ∙ order-free (grants_in ds) (grants_in es) s j ∙ sym (journal_leaves es j b)

module _ (j : Journal) (by to on right : ℕ) where
  same_number : (i : Journal) (depth : ℕ) → depth ≤ 7 → answered i (Drop by to on right depth) ≡ answered i (Withdraw by to on right)
  same_number i depth h =
      drop-answer (facts i (arguments_of (Drop by to on right depth))) (facts i (arguments_of (Withdraw by to on right))) refl refl refl
      refl refl by to on right depth h

  -- what stands where a grant is dropped
  standing-dropped : (g h : Grant) → standing (dropped j g) h ≡ standing j h && not (same_grant g h)
  standing-dropped g h =
      any_kept (same_grant h) (λ x. not (same_grant g x)) (λ x. true) (not (same_grant g h)) j.grants (all_true j.grants)
      (λ x k e. ap (λ (y : Grant). not (same_grant g y)) (sym (same_grant_lem h x e)))

  -- the only depth there is among the eight as it is alone
  only-depth : (depth : ℕ) → leb depth 7 ≡ true → ((e : ℕ) → e ≤ 7 → standing j (grant to on right e) ≡ true → e ≡ depth)
      → (x : Grant) → standing j x ≡ true → among (grant to on right depth ∷ []) x ≡ among (of_each_depth to on right) x
  unfolding any
  only-depth depth k only x s =
      iff _ _
      (λ e. let q : grant to on right depth ≡ x = same_grant_lem _ _ (sym (or-false (same_grant (grant to on right depth) x)) ∙ e) in
      subst (λ y. among (of_each_depth to on right) y ≡ true) q
      (each-depth to on right (grant to on right depth) k ∙ both (both (eqb_self to) (eqb_self on)) (eqb_self right)))
      (λ e. let f = find (λ d. same_grant (grant to on right d) x) (λ d. leb d 7) depths small
      (sym (any-map (λ g. same_grant g x) (λ d. grant to on right d) depths) ∙ e) in
      let q : grant to on right f.0 ≡ x = same_grant_lem _ _ f.2 in
      let z : f.0 ≡ depth = only f.0 (leb-true _ _ f.1) (ap (standing j) q ∙ s) in
      or_left (same_grant (grant to on right depth) x) false
      (subst (λ (d : ℕ). same_grant (grant to on right d) x ≡ true) z f.2))

  pub journal_drop : (depth : ℕ) → Drops answered step standing (λ i n. n) j by to on right depth
  journal_drop depth = record {
    number = same_number j depth;
    beyond = λ n. drop-beyond (facts j (arguments_of (Drop by to on right depth))) by to on right depth n;
    nothing = λ n. rw (ne_eqb _ 0 n);
    ends = ends_of;
    greatest = λ e. greatest-left (standing j) _ to on right depth (within_of_lem e).0 (ends_of e);
    closes =
        λ e only. stepped j (Drop by to on right depth) e ∙ dropped_is (grant to on right depth ∷ []) j
        ∙ ap (with_grants j)
        (keep_cong _ _ (standing j) j.grants (all_in same_grant grant_self j.grants)
        (λ x s. ap not (only-depth depth (within_of_lem e).1 only x s)))
        ∙ sym (dropped_is (of_each_depth to on right) j)
        ∙ sym (stepped j (Withdraw by to on right) (sym (same_number j depth (leb-true depth 7 (within_of_lem e).1)) ∙ e));
  }
    where
      -- the limits of an accepted drop
      within_of_lem : answered j (Drop by to on right depth) ≡ 0 → (items to on && right_depth right 0 ≡ true) × (leb depth 7 ≡ true)
      within_of_lem e =
          let a = arguments_of (Drop by to on right depth) in
          let k = (accepted (facts j a) a e).fits in
          (search (fst, snd, both), search (fst, snd))

      ends_of : answered j (Drop by to on right depth) ≡ 0 → (g : Grant) → ranged g ≡ true
          → standing (step j (Drop by to on right depth)) g ≡ standing j g && not (same_grant (grant to on right depth) g)
      ends_of e g r = ap (λ (i : Journal). standing i g) (stepped j (Drop by to on right depth) e) ∙ standing-dropped (grant to on right depth) g

  -- drops that leave by's edit grants ask what withdraw asks, over and over
  journal_singles : eqb by to && eqb right 0 ≡ false
      → Singles answered step (λ d. Drop by to on right d) (λ i. answered i (Withdraw by to on right) ≡ 0) (λ i d. leb d 7)
      (λ i d. dropped i (grant to on right d)) (λ i ds. dropped_all i (map (λ d. grant to on right d) ds))
  journal_singles n = record {
    done = λ i d e h. same_number i d (leb-true d 7 h) ∙ e;
    leaves = λ i d e. stepped i (Drop by to on right d) e;
    still = λ i d e h. rw (held_less (grant to on right d) by on 0 (not_own by to on right d n) i.grants) e;
    others = λ i d e h k q. q;
    nobody = λ i. refl;
    more = λ i d ds. refl;
  }

  pub journal_withdraw : Withdraws answered step standing (λ i n. n) j by to on right
  journal_withdraw = record {
    eight =
        λ e ds s a. journal_leaves ds j a ∙ order-free (grants_in ds) (of_each_depth to on right) s j
        ∙ sym (stepped j (Withdraw by to on right) e);
    each = λ e n ds h. (one_by_one (journal_singles n) ds j e h).0;
  }
