-- Each command, case by case: what the journal keeps. Whoever adds a command adds its clauses here, and in the files of this name of
-- layouts and delegation, which say what the images do.
use mathlib.Core.Path.{◌≡◌, refl, sym, ap, ◌∙◌}
use mathlib.Core.Bool.{Bool, true, false, not, ◌&&◌, ◌||◌, cond, false≢true}
use mathlib.Core.List.{List, [], ◌∷◌, map}
use Prim.Native.Nat.{ℕ}
use borrow.Author.Tests.{eqb-true, eq-eqb}
use lib.Dec.{eqb, leb}
use Rattle.model.specs.declared.Command.{Command}
use Rattle.model.specs.declared.Command.TheVariants.{Create, Delete, Allow, Withdraw, Lend, Recall, Shift, AllowSet, Drop, Sweep}
use Rattle.bits.specs.Sets.{any, all, keep, add}
use Rattle.model.specs.Commands.{items, right_depth, arguments_of, is_sweep, members_of}
use Rattle.model.specs.Answers.{flat}
use Rattle.model.specs.Journal.{Grant, Loan, Journal, grant, granted_all, less_grant, dropped_all, of_each_depth, loan, same_grant, same_loan, names, loan_names, is_past, lives, facts, answered, fresh, apply, step, run, is_drop}
use Rattle.bits.proofs.Sets.{fst, snd, both, or_left, or_right, all_mono, all_keep, all-add}
use Rattle.model.proofs.Answers.{LoanFree}
use Rattle.model.proofs.Commands.{ranged_command}
use Rattle.model.proofs.AllowSet.{alive, ready, live-granted, loans-granted, shift-granted, all-granted}
use Rattle.model.proofs.Drop.{ended-inv, ended-loans}
use Rattle.model.proofs.Invariant.{eqb_sym, neither, accepted, named_live, lives-create, lives-delete, inv-fresh, grow, loans-fresh, keep-loans, few_add, grow_loan, distinct-add}
use Rattle.model.specs.Invariant.{ranged, sound, Inv, ranged_loan, sound_loan, LoanInv, Kept, Alike}

-- ---- what every journal keeps of its live items and grants
-- the grants of a team are sound
team_sound : (j : Journal) (f : ℕ → Bool) (on right depth : ℕ) → ((i : ℕ) → lives j i ≡ true → f i ≡ true)
    → items on on && right_depth right depth ≡ true → lives j on ≡ true → (is : List ℕ) → all (alive j) is ≡ true
    → all (sound f) (map (λ i. grant i on right depth) is) ≡ true
unfolding all
team_sound j f on right depth up w l [] h = refl
team_sound j f on right depth up w l (i ∷ is) h =
    let k : alive j i ≡ true = fst (alive j i) (all (alive j) is) h in
    let b : leb i 63 ≡ true = fst (leb i 63) (lives j i) k in
    let o : leb on 63 ≡ true = search (fst, snd) in
    let d : right_depth right depth ≡ true = snd (items on on) (right_depth right depth) w in
    both (both (both (both b o) d) (both (up i (snd (leb i 63) (lives j i) k)) (up on l)))
    (team_sound j f on right depth up w l is (snd (alive j i) (all (alive j) is) h))

inv_apply : (j : Journal) (c : Command) → Inv j → answered j c ≡ 0 → Inv (apply j c)
inv_apply j (Create by on) v e =
    let k = accepted (facts j (arguments_of (Create by on))) (arguments_of (Create by on)) e in
    let r : items by on ≡ true = let h = k.fits in search (fst, snd, both) in
    let up : (i : ℕ) → lives j i ≡ true → lives (apply j (Create by on)) i ≡ true
    = λ i h. lives-create j by on i ∙ or_right (eqb i on) (lives j i) h in
    record {
      root = up 0 v.root;
      grants-sound =
          all-add (sound (lives (apply j (Create by on)))) same_grant (grant by on 0 0) j.grants
          (both (both r refl) (both (up by k.by) (lives-create j by on on ∙ or_left (eqb on on) (lives j on) (eq-eqb on on refl))))
          (all_mono (sound (lives j)) (sound (lives (apply j (Create by on)))) j.grants v.grants-sound
          (grow (lives j) (lives (apply j (Create by on))) up));
    }
inv_apply j (Delete by on) v e =
    let k = accepted (facts j (arguments_of (Delete by on))) (arguments_of (Delete by on)) e in
    let low : (i : ℕ) → eqb i on ≡ false → lives j i ≡ true → lives (apply j (Delete by on)) i ≡ true
    = λ i n h. lives-delete j by on i ∙ both h (ap not n) in
    record {
      root = low 0 (eqb_sym 0 on ∙ k.root) v.root;
      grants-sound =
          all_mono _ (sound (lives (apply j (Delete by on)))) _
          (all_keep (sound (lives j)) (λ g. not (names on g)) j.grants v.grants-sound)
          (λ g h. let n = neither (eqb g.person on) (eqb g.item on) (snd (sound (lives j) g) _ h) in
          let a : ranged g ≡ true = search (fst, snd) in
          let b : lives j g.person ≡ true = search (fst, snd) in
          let c : lives j g.item ≡ true = search (fst, snd) in
          both a (both (low g.person n.0 b) (low g.item n.1 c)));
    }
inv_apply j (Allow by to on right depth) v e =
    let k = accepted (facts j (arguments_of (Allow by to on right depth))) (arguments_of (Allow by to on right depth)) e in
    let r : items to on && right_depth right depth ≡ true = let h = k.fits in search (fst, snd, both) in
    let l = named_live (lives j on) (lives j to) _ k.named in
    record {
      root = v.root;
      grants-sound =
          all-add (sound (lives j)) same_grant (grant to on right depth) j.grants (both r (both l.1 l.0)) v.grants-sound;
    }
inv_apply j (Withdraw by to on right) v e = ended-inv j (of_each_depth to on right) v
inv_apply j (Drop by to on right depth) v e = ended-inv j (grant to on right depth ∷ []) v
inv_apply j (Lend by to on right depth last) v e = record { root = v.root; grants-sound = v.grants-sound }
inv_apply j (Recall by to on right depth last) v e = record { root = v.root; grants-sound = v.grants-sound }
inv_apply j (Shift by now) v e = record { root = v.root; grants-sound = v.grants-sound }
inv_apply j (Sweep by) v e = record { root = v.root; grants-sound = v.grants-sound }
inv_apply j (AllowSet by set on right depth) v e =
    let gs = map (λ i. grant i on right depth) (members_of set) in
    let up : (i : ℕ) → lives (granted_all j gs) i ≡ lives j i = λ i. ap (any (eqb i)) (live-granted gs j) in
    let k = ready by on right depth j set e in
    let w : items on on && right_depth right depth ≡ true = let h = k.0.within in search (fst, snd, both) in
    record {
      root = up 0 ∙ v.root;
      grants-sound =
          all-granted (sound (lives (granted_all j gs))) gs j
          (team_sound j (lives (granted_all j gs)) on right depth (λ i h. up i ∙ h) w k.0.on-lives (members_of set) k.1)
          (all_mono (sound (lives j)) (sound (lives (granted_all j gs))) j.grants v.grants-sound
          (grow (lives j) (lives (granted_all j gs)) (λ i h. up i ∙ h)));
    }

pub inv-step : (j : Journal) (c : Command) → Inv j → Inv (step j c)
inv-step j c v = go (eqb (answered j c) 0) refl
  where
    go : (b : Bool) → eqb (answered j c) 0 ≡ b → Inv (cond b (apply j c) j)
    go true e = inv_apply j c v (eqb-true _ _ e)
    go false e = v

-- ---- and of its loans
-- where only some of them are kept
fewer_loans : (j : Journal) (q : Loan → Bool) → LoanInv j
    → LoanInv (record { live = j.live; grants = j.grants; loans = keep q j.loans; shift = j.shift })
fewer_loans j q v =
    let k = keep-loans j q v in
    record {
      loans-sound = all_mono _ (sound_loan (lives j)) _ k.0 (λ l h. fst (sound_loan (lives j) l) (q l) h);
      loans-distinct = k.1;
      loans_few = k.2;
      shift_in = v.shift_in;
    }

loans-apply : (j : Journal) (c : Command) → LoanInv j → answered j c ≡ 0 → LoanInv (apply j c)
loans-apply j (Create by on) v e = record {
  loans-sound =
      all_mono (sound_loan (lives j)) (sound_loan (lives (apply j (Create by on)))) j.loans v.loans-sound
      (λ l h. grow_loan (lives j) (lives (apply j (Create by on))) l (λ i k. lives-create j by on i ∙ or_right (eqb i on) (lives j i) k) h);
  loans-distinct = v.loans-distinct;
  loans_few = v.loans_few;
  shift_in = v.shift_in;
}
loans-apply j (Delete by on) v e =
    let k = keep-loans j (λ l. not (loan_names on l)) v in
    let low : (i : ℕ) → eqb i on ≡ false → lives j i ≡ true → lives (apply j (Delete by on)) i ≡ true
    = λ i n h. lives-delete j by on i ∙ both h (ap not n) in
    record {
      loans-sound = all_mono _ (sound_loan (lives (apply j (Delete by on)))) _ k.0
          (λ l h. let n = neither (eqb l.lender on || eqb l.item on) (eqb l.borrower on) (snd (sound_loan (lives j) l) _ h) in
          let m = neither (eqb l.lender on) (eqb l.item on) (ap not n.0) in
          let s : sound_loan (lives j) l ≡ true = fst (sound_loan (lives j) l) (not (loan_names on l)) h in
          let a : ranged_loan l && not (eqb l.right 0) ≡ true = fst _
          (lives j l.lender && lives j l.item && lives j l.borrower) s in
          let b : lives j l.lender ≡ true = search (fst, snd) in
          let c : lives j l.item ≡ true = search (fst, snd) in
          let d : lives j l.borrower ≡ true = search (fst, snd) in
          both a (both (both (low l.lender m.0 b) (low l.item m.1 c)) (low l.borrower n.1 d)));
      loans-distinct = k.1;
      loans_few = k.2;
      shift_in = v.shift_in;
    }
loans-apply j (Allow by to on right depth) v e =
    record { loans-sound = v.loans-sound; loans-distinct = v.loans-distinct; loans_few = v.loans_few; shift_in = v.shift_in }
loans-apply j (AllowSet by set on right depth) v e =
    let gs = map (λ i. grant i on right depth) (members_of set) in
    let up : (i : ℕ) → lives j i ≡ true → lives (granted_all j gs) i ≡ true = λ i h. ap (any (eqb i)) (live-granted gs j) ∙ h in
    record {
      loans-sound =
          rw (loans-granted gs j)
          (all_mono (sound_loan (lives j)) (sound_loan (lives (granted_all j gs))) j.loans v.loans-sound
          (λ l h. grow_loan (lives j) (lives (granted_all j gs)) l up h));
      loans-distinct = rw (loans-granted gs j) v.loans-distinct;
      loans_few = rw (loans-granted gs j) v.loans_few;
      shift_in = rw (shift-granted gs j) v.shift_in;
    }
loans-apply j (Withdraw by to on right) v e = ended-loans j (of_each_depth to on right) v
loans-apply j (Drop by to on right depth) v e = ended-loans j (grant to on right depth ∷ []) v
loans-apply j (Lend by to on right depth last) v e =
    let k = accepted (facts j (arguments_of (Lend by to on right depth last))) (arguments_of (Lend by to on right depth last)) e in
    let l = named_live (lives j on) (lives j to) _ k.named in
    record {
      loans-sound =
          all-add (sound_loan (lives j)) same_loan (loan by on right to depth last) j.loans
          (both (both k.fits (ap not k.right)) (both (both k.by l.0) l.1)) v.loans-sound;
      loans-distinct = distinct-add (loan by on right to depth last) j.loans v.loans-distinct;
      loans_few = few_add (loan by on right to depth last) j.loans v.loans_few k.full;
      shift_in = v.shift_in;
    }
loans-apply j (Recall by to on right depth last) v e = fewer_loans j (λ l. not (same_loan (loan by on right to depth last) l)) v
loans-apply j (Sweep by) v e = fewer_loans j (λ l. not (is_past j.shift l.last)) v
loans-apply j (Shift by now) v e =
    let k = accepted (facts j (arguments_of (Shift by now))) (arguments_of (Shift by now)) e in
    record {
      loans-sound = v.loans-sound;
      loans-distinct = v.loans-distinct;
      loans_few = v.loans_few;
      shift_in = (ranged_command (arguments_of (Shift by now)) k.fits).shift;
    }

pub loans-step : (j : Journal) (c : Command) → LoanInv j → LoanInv (step j c)
loans-step j c v = go (eqb (answered j c) 0) refl
  where
    go : (b : Bool) → eqb (answered j c) 0 ≡ b → LoanInv (cond b (apply j c) j)
    go true e = loans-apply j c v (eqb-true _ _ e)
    go false e = v

pub kept_fresh : Kept fresh
kept_fresh = record { inv = inv-fresh; loan-inv = loans-fresh }

pub kept_step : (j : Journal) (c : Command) → Kept j → Kept (step j c)
kept_step j c v = record { inv = inv-step j c v.inv; loan-inv = loans-step j c v.loan-inv }

pub kept_run : (cs : List Command) (j : Journal) → Kept j → Kept (run j cs)
kept_run [] j v = v
kept_run (c ∷ cs) j v = kept_run cs (step j c) (kept_step j c v)

-- ---- lists and rows
-- lend and shift alone ask about loans, and lists and rows lack both
pub flat_lends : (c : Command) → flat c ≡ true → LoanFree (arguments_of c).verb
flat_lends (Create by on) h = record { back = refl; past = refl; full = refl }
flat_lends (Delete by on) h = record { back = refl; past = refl; full = refl }
flat_lends (Allow by to on right depth) h = record { back = refl; past = refl; full = refl }
flat_lends (Withdraw by to on right) h = record { back = refl; past = refl; full = refl }
flat_lends (Lend by to on right depth last) h = absurd (false≢true h)
flat_lends (Recall by to on right depth last) h = record { back = refl; past = refl; full = refl }
flat_lends (Shift by now) h = absurd (false≢true h)
flat_lends (AllowSet by set on right depth) h = record { back = refl; past = refl; full = refl }
flat_lends (Drop by to on right depth) h = absurd (false≢true h)
flat_lends (Sweep by) h = absurd (false≢true h)

-- they lack sweep too
pub sweep_passed : (c : Command) → is_sweep c ≡ true → flat c ≡ false
sweep_passed (Create by on) h = absurd (false≢true h)
sweep_passed (Delete by on) h = absurd (false≢true h)
sweep_passed (Allow by to on right depth) h = absurd (false≢true h)
sweep_passed (Withdraw by to on right) h = absurd (false≢true h)
sweep_passed (Lend by to on right depth last) h = refl
sweep_passed (Recall by to on right depth last) h = refl
sweep_passed (Shift by now) h = refl
sweep_passed (AllowSet by set on right depth) h = absurd (false≢true h)
sweep_passed (Drop by to on right depth) h = refl
sweep_passed (Sweep by) h = refl

-- the same grants added to both
alike_granted : (gs : List Grant) {j k : Journal} → Alike j k → Alike (granted_all j gs) (granted_all k gs)
alike_granted [] a = a
alike_granted (g ∷ gs) a = alike_granted gs (record { live = a.live; grants = ap (add same_grant g) a.grants })

-- the same grants taken from both
alike_dropped : (gs : List Grant) {j k : Journal} → Alike j k → Alike (dropped_all j gs) (dropped_all k gs)
alike_dropped [] a = a
alike_dropped (g ∷ gs) a = alike_dropped gs (record { live = a.live; grants = ap (λ gs. less_grant gs g) a.grants })

-- what lists and rows lack leaves both alone, but for drop
pub alike_apply : {j k : Journal} → Alike j k → (c : Command) → is_drop c ≡ false → Alike (apply j c) (cond (flat c) (apply k c) k)
alike_apply a (Create by on) h = record { live = ap (add eqb on) a.live; grants = ap (add same_grant (grant by on 0 0)) a.grants }
alike_apply a (Delete by on) h =
    record { live = ap (keep (λ i. not (eqb i on))) a.live; grants = ap (keep (λ g. not (names on g))) a.grants }
alike_apply a (Allow by to on right depth) h = record { live = a.live; grants = ap (add same_grant (grant to on right depth)) a.grants }
alike_apply a (Withdraw by to on right) h = alike_dropped (of_each_depth to on right) a
alike_apply a (Lend by to on right depth last) h = record { live = a.live; grants = a.grants }
alike_apply a (Recall by to on right depth last) h = record { live = a.live; grants = a.grants }
alike_apply a (Shift by now) h = record { live = a.live; grants = a.grants }
alike_apply a (Sweep by) h = record { live = a.live; grants = a.grants }
alike_apply a (AllowSet by set on right depth) h = alike_granted (map (λ i. grant i on right depth) (members_of set)) a
alike_apply a (Drop by to on right depth) h = absurd (false≢true (sym h))
