-- What every journal keeps: item 0 lives, each grant and each loan is within the limits and names living items, and at most 1,024 loans
-- stand, each once.
use mathlib.Core.Path.{◌≡◌, refl, sym, ap, ◌∙◌}
use mathlib.Core.Bool.{Bool, true, false, not, ◌&&◌, ◌||◌, cond, false≢true}
use Prim.Native.Nat.{ℕ, suc, ◌≤◌}
use native.Mathlib.Omega.{arith}
use borrow.Author.Tests.{eqb-true, eq-eqb, leb-true, leb-false, not-true}
use lib.Dec.{eqb, leb}
use Rattle.bits.specs.Sets.{any, all, keep, add}
use Rattle.model.specs.Commands.{items, right_depth, fits, is_empty}
use Rattle.model.specs.Answers.{answer, asked, knows}
use Rattle.model.specs.Journal.{Grant, Loan, Journal, grant, loan, same_grant, same_loan, is_to, lives, fresh, apply, has_grant}
use Rattle.bits.proofs.Sets.{iff, fst, snd, both, all_mono, any_kept, all_keep, any-add, any_less, all_true, by_cases, find, length-keep, eqb_self}
use Rattle.model.specs.declared.Command.TheVariants.{Create, Delete}
use Rattle.model.specs.declared.Arguments.{Arguments}
use Rattle.model.specs.declared.Facts.{Facts}
use mathlib.Core.List.{List, [], ◌∷◌}
use lib.ListN.{length}
use Rattle.model.specs.Invariant.{sound, Inv, ranged_loan, sound_loan, distinct, LoanInv}

pub eqb_sym : (a b : ℕ) → eqb a b ≡ eqb b a
eqb_sym a b = iff (eqb a b) (eqb b a) (λ e. eq-eqb b a (sym (eqb-true a b e))) (λ e. eq-eqb a b (sym (eqb-true b a e)))

pub neither : (a b : Bool) → not (a || b) ≡ true → (a ≡ false) × (b ≡ false)
neither false false e = (refl, refl)
neither false true e = absurd (false≢true e)
neither true b e = absurd (false≢true e)

pub same_grant_lem : (g h : Grant) → same_grant g h ≡ true → g ≡ h
same_grant_lem g h e =
    let a : g.person ≡ h.person = search (fst, snd, eqb-true) in
    let b : g.item ≡ h.item = search (fst, snd, eqb-true) in
    let c : g.right ≡ h.right = search (fst, snd, eqb-true) in
    let d : g.depth ≡ h.depth = search (fst, snd, eqb-true) in
    let r : grant g.person g.item g.right g.depth ≡ grant h.person h.item h.right h.depth = cc in
    r

pub same_loan_lem : (l m : Loan) → same_loan l m ≡ true → l ≡ m
same_loan_lem l m e =
    let a : l.lender ≡ m.lender = search (fst, snd, eqb-true) in
    let b : l.item ≡ m.item = search (fst, snd, eqb-true) in
    let c : l.right ≡ m.right = search (fst, snd, eqb-true) in
    let d : l.borrower ≡ m.borrower = search (fst, snd, eqb-true) in
    let f : l.depth ≡ m.depth = search (fst, snd, eqb-true) in
    let g : l.last ≡ m.last = search (fst, snd, eqb-true) in
    let r : loan l.lender l.item l.right l.borrower l.depth l.last ≡ loan m.lender m.item m.right m.borrower
    m.depth m.last = cc in
    r

pub grant_self : (g : Grant) → same_grant g g ≡ true
grant_self g = simp eqb_self

pub loan_self : (l : Loan) → same_loan l l ≡ true
loan_self l = simp eqb_self

-- ---- a command that is answered 0
pub passed : (n : ℕ) (b : Bool) (m : ℕ) → cond (not b) (suc n) m ≡ 0 → (b ≡ true) × (m ≡ 0)
passed n true m e = (refl, e)
passed n false m e = absurd (omega arith)

pub blocked : (n : ℕ) (b : Bool) (m : ℕ) → cond b (suc n) m ≡ 0 → (b ≡ false) × (m ≡ 0)
blocked n false m e = (refl, e)
blocked n true m e = absurd (omega arith)

-- the arguments of a check that is not refused
pub asked_in : (p o r : ℕ) → asked p o r ≡ 0 → items p o && right_depth r 0 ≡ true
asked_in p o r e = (passed 2 (items p o && right_depth r 0) 0 e).0

pub asked_limits : (p o r : ℕ) → asked p o r ≡ 0 → (p ≤ 63) × (o ≤ 63) × (r ≤ 7)
asked_limits p o r e = let h = asked_in p o r e in search (fst, snd, leb-true)

-- the rows that did not apply
pub record Accepted (f : Facts) (a : Arguments) : Type 0 where
  pub fits : fits a ≡ true
  pub empty : knows a.verb 14 && is_empty a.set ≡ false
  pub by : f.by ≡ true
  pub named : knows a.verb 5 && not (f.on && f.to && f.members) ≡ false
  pub root : knows a.verb 7 && eqb a.on 0 ≡ false
  pub edits : knows a.verb 8 && not f.edits ≡ false
  pub back : knows a.verb 12 && f.back ≡ false
  pub right : knows a.verb 9 && eqb a.right 0 ≡ false
  pub past : knows a.verb 13 && f.past ≡ false
  pub full : knows a.verb 10 && f.full ≡ false

pub accepted : (f : Facts) (a : Arguments) → answer f a ≡ 0 → Accepted f a
accepted f a e =
    let p3 = passed 2 (fits a) _ e in
    let p14 = blocked 13 (knows a.verb 14 && is_empty a.set) _ p3.1 in
    let p4 = passed 3 f.by _ p14.1 in
    let p5 = blocked 4 (knows a.verb 5 && not (f.on && f.to && f.members)) _ p4.1 in
    let p6 = blocked 5 (knows a.verb 6 && f.on) _ p5.1 in
    let p7 = blocked 6 (knows a.verb 7 && eqb a.on 0) _ p6.1 in
    let p8 = blocked 7 (knows a.verb 8 && not f.edits) _ p7.1 in
    let p12 = blocked 11 (knows a.verb 12 && f.back) _ p8.1 in
    let p9 = blocked 8 (knows a.verb 9 && eqb a.right 0) _ p12.1 in
    let p13 = blocked 12 (knows a.verb 13 && f.past) _ p9.1 in
    let p10 = blocked 9 (knows a.verb 10 && f.full) _ p13.1 in
    record { fits = p3.0; empty = p14.0; by = p4.0; named = p5.0; root = p7.0; edits = p8.0; back = p12.0; right = p9.0; past = p13.0; full = p10.0 }

-- all named live
pub named_live : (x y m : Bool) → not (x && y && m) ≡ false → (x ≡ true) × (y ≡ true) × (m ≡ true)
named_live true true true e = (refl, refl, refl)
named_live true true false e = absurd (false≢true (sym e))
named_live true false m e = absurd (false≢true (sym e))
named_live false y m e = absurd (false≢true (sym e))

-- ---- the live set after each command
pub lives-create : (j : Journal) (by on i : ℕ) → lives (apply j (Create by on)) i ≡ eqb i on || lives j i
lives-create j by on i = any-add (eqb i) eqb eqb-true on j.live

pub lives-delete : (j : Journal) (by on i : ℕ) → lives (apply j (Delete by on)) i ≡ lives j i && not (eqb i on)
lives-delete j by on i =
    any_kept (eqb i) (λ x. not (eqb x on)) (λ x. true) (not (eqb i on)) j.live (all_true j.live)
    (λ x h e. ap (λ (n : ℕ). not (eqb n on)) (sym (eqb-true i x e)))

pub inv-fresh : Inv fresh
unfolding fresh any all
inv-fresh = record { root = refl; grants-sound = refl }

-- a larger live set
pub grow : (f f' : ℕ → Bool) → ((i : ℕ) → f i ≡ true → f' i ≡ true) → (g : Grant) → sound f g ≡ true → sound f' g ≡ true
grow f f' e g h = search (fst, snd, both)

pub to-parts : (p o r : ℕ) (g : Grant) → is_to p o r g ≡ true → (g.person ≡ p) × (g.item ≡ o) × (g.right ≡ r)
to-parts p o r g e = search (fst, snd, eqb-true)

-- no grant stands beyond the limits
pub beyond-none : (j : Journal) → Inv j → (p o r : ℕ) → items p o && right_depth r 0 ≡ false → has_grant j p o r ≡ false
beyond-none j v p o r h =
    by_cases (has_grant j p o r)
    (λ t. let f = find (is_to p o r) (sound (lives j)) j.grants v.grants-sound t in
    let s : sound (lives j) f.0 ≡ true = f.1 in
    let q = to-parts p o r f.0 f.2 in
    let b : items f.0.person f.0.item && right_depth f.0.right 0 ≡ true = search (fst, snd, both) in
    let c : items p o && right_depth r 0 ≡ true = rw (q.0, q.1, q.2) at b in
    absurd (false≢true (sym h ∙ c)))
    (λ t. t)

pub loans-ranged : (j : Journal) → LoanInv j → all ranged_loan j.loans ≡ true
loans-ranged j v = all_mono (sound_loan (lives j)) ranged_loan j.loans v.loans-sound (λ l h. search (fst, snd))

pub loans-fresh : LoanInv fresh
unfolding fresh all distinct
loans-fresh = record { loans-sound = refl; loans-distinct = refl; loans_few = omega arith; shift_in = omega arith }

pub distinct-add : (l : Loan) (ls : List Loan) → distinct ls ≡ true → distinct (add same_loan l ls) ≡ true
unfolding add distinct
distinct-add l ls d = go (any (same_loan l) ls) refl
  where
    go : (b : Bool) → any (same_loan l) ls ≡ b → distinct (cond b ls (l ∷ ls)) ≡ true
    go true e = d
    go false e = both (ap not e) d

distinct-keep : (f : Loan → Bool) (ls : List Loan) → distinct ls ≡ true → distinct (keep f ls) ≡ true
unfolding keep distinct
distinct-keep f [] d = refl
distinct-keep f (l ∷ ls) d = go (f l) (distinct-keep f ls (snd (not (any (same_loan l) ls)) (distinct ls) d))
  where
    go : (b : Bool) → distinct (keep f ls) ≡ true → distinct (cond b (l ∷ keep f ls) (keep f ls)) ≡ true
    go true k = both (ap not (any_less (same_loan l) f ls (not-true _ (fst (not (any (same_loan l) ls)) (distinct ls) d)))) k
    go false k = k

pub keep-loans : (j : Journal) (f : Loan → Bool) → LoanInv j
    → (all (λ l. sound_loan (lives j) l && f l) (keep f j.loans) ≡ true) × (distinct (keep f j.loans) ≡ true)
    × (length (keep f j.loans) ≤ 1024)
keep-loans j f v = (
  all_keep (sound_loan (lives j)) f j.loans v.loans-sound,
  distinct-keep f j.loans v.loans-distinct,
  omega
      (arith, length-keep f j.loans, v.loans_few),
)

-- one more fits where fewer than 1,024 stand
pub few_add : (l : Loan) (ls : List Loan) → length ls ≤ 1024 → leb 1024 (length ls) && not (any (same_loan l) ls) ≡ false
    → length (add same_loan l ls) ≤ 1024
unfolding add
few_add l ls h e = go (any (same_loan l) ls) (leb 1024 (length ls)) refl e
  where
    go : (b c : Bool) → leb 1024 (length ls) ≡ c → c && not b ≡ false → length (cond b ls (l ∷ ls)) ≤ 1024
    go true c q e = h
    go false true q e = absurd (false≢true (sym e))
    go false false q e = leb-false 1024 (length ls) q

pub grow_loan : (f f' : ℕ → Bool) (l : Loan) → ((i : ℕ) → f i ≡ true → f' i ≡ true) → sound_loan f l ≡ true → sound_loan f' l ≡ true
grow_loan f f' l e h = search (fst, snd, both)
