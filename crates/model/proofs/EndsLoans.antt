-- What becomes of the journal's loans by a withdraw or drop. A loan of the person's on the item and right ends exactly where the person
-- had a grant there and has none now; every other is kept (`kept_loan`). No command but a lend of that person's there brings such a loan
-- (`none-step`), so none stands until then. Grants and loans are fewer and the shift is the same, so each chain was one before. Where no loan of a
-- person's stands there, a new grant to that person makes no chain that goes on (`opens-to-one`).
use mathlib.Core.Path.{◌≡◌, refl, sym, ap, ◌∙◌, subst}
use mathlib.Core.Bool.{Bool, true, false, not, ◌&&◌, cond, false≢true, and-true}
use mathlib.Core.List.{List, [], ◌∷◌, map}
use Prim.Native.Nat.{ℕ}
use borrow.Author.Tests.{eqb-true, eq-eqb}
use lib.Dec.{eqb, leb}
use Rattle.bits.specs.Sets.{any, keep}
use Rattle.model.specs.declared.Command.{Command}
use Rattle.model.specs.declared.Command.TheVariants.{Create, Delete, Allow, Withdraw, Lend, Recall, Shift, AllowSet, Drop, Sweep}
use Rattle.model.specs.Commands.{depths, members_of}
use Rattle.model.specs.Journal.{Grant, Loan, Journal, grant, loan, same_grant, same_loan, is_to, is_from, loan_names, is_past, lives, has_grant, standing, standing_loan, LoanCarries, answered, less_grant, last_ends, dropped, dropped_all, of_each_depth, apply, step, lends_from}
use Rattle.model.specs.Journal as journal
use Rattle.model.specs.Chain.{granted, lent, JournalChain}
use Rattle.model.specs.AllowSet.{finally}
use Rattle.model.specs.Ending.{holding, StaysClean, EndsLoans, GainsNobody, OpensToOne}
use Rattle.model.specs.Invariant.{ranged_loan, sound, Inv}
use Rattle.bits.proofs.Sets.{iff, by_cases, fst, snd, both, either, neither, find, found, all_true, keep_cong, any_kept, any_fewer, any_less, any_gone, any_same, any-add, eqb_self}
use Rattle.model.proofs.Commands.{depth_in, small}
use Rattle.model.proofs.Chain.{chain-map}
use Rattle.model.proofs.AllowSet.{loans-granted}
use Rattle.model.proofs.Invariant.{same_grant_lem, grant_self, same_loan_lem, to-parts}
use Rattle.model.proofs.Ending.{lost_there}
use Rattle.model.proofs.Drop.{dropped_is, ended-inv, none_dropped, withdraw-grants, stepped}

-- ---- a person with a grant has one of some depth
to-grant : (p o r : ℕ) (g : Grant) → is_to p o r g ≡ true → g ≡ grant p o r g.depth
to-grant p o r g e =
    let q = to-parts p o r g e in
    let z : grant g.person g.item g.right g.depth ≡ grant p o r g.depth = rw (q.0, q.1, q.2) in
    z

pub holding_is : (j : Journal) → Inv j → (p o r : ℕ) → any (λ d. standing j (grant p o r d)) depths ≡ has_grant j p o r
holding_is j v p o r =
    iff _ _
    (λ e. let f = find (λ d. standing j (grant p o r d)) (λ d. leb d 7) depths small e in
    any_same (is_to p o r) same_grant same_grant_lem (grant p o r f.0) j.grants f.2 (both (both (eqb_self p) (eqb_self o)) (eqb_self r)))
    (λ e. let f = find (λ g. standing j g && is_to p o r g) (sound (lives j)) j.grants v.grants-sound (standing_too e) in
    let g : Grant = f.0 in
    let k : sound (lives j) g ≡ true = f.1 in
    any_same (λ d. standing j (grant p o r d)) eqb eqb-true g.depth depths (depth_in g.depth (search (fst, snd)))
    (subst (λ (x : Grant). standing j x ≡ true) (to-grant p o r g (snd (standing j g) (is_to p o r g) f.2))
    (fst (standing j g) (is_to p o r g) f.2)))
  where
    standing_too : any (is_to p o r) j.grants ≡ true → any (λ g. standing j g && is_to p o r g) j.grants ≡ true
    standing_too e =
        let x = found (is_to p o r) same_grant grant_self j.grants e in
        any_same (λ g. standing j g && is_to p o r g) same_grant same_grant_lem x.0 j.grants x.2 (both x.2 x.1)

-- ---- what stands of a loan
-- where loans were kept by a test
pub kept_loan : (f : Loan → Bool) (l : Loan) (ls : List Loan) → any (same_loan l) (keep f ls) ≡ any (same_loan l) ls && f l
kept_loan f l ls =
    any_kept (same_loan l) f (λ m. true) (f l) ls (all_true ls) (λ m k e. ap f (sym (same_loan_lem l m e)))

-- ---- no command but a lend of p's there brings a loan of p's there
module _ (p o r : ℕ) where
  none-apply : (j : Journal) (c : Command) → lends_from p o r c ≡ false → any (is_from p o r) j.loans ≡ false
      → any (is_from p o r) (apply j c).loans ≡ false
  none-apply j (Create by on) h n = n
  none-apply j (Delete by on) h n = any_less (is_from p o r) (λ l. not (loan_names on l)) j.loans n
  none-apply j (Allow by to on right depth) h n = n
  none-apply j (Withdraw by to on right) h n = none_dropped (is_from p o r) (of_each_depth to on right) j n
  none-apply j (Drop by to on right depth) h n = none_dropped (is_from p o r) (grant to on right depth ∷ []) j n
  none-apply j (Lend by to on right depth last) h n =
      any-add (is_from p o r) same_loan same_loan_lem (loan by on right to depth last) j.loans ∙ rw (h, n)
  none-apply j (Recall by to on right depth last) h n =
      any_less (is_from p o r) (λ l. not (same_loan (loan by on right to depth last) l)) j.loans n
  none-apply j (Shift by now) h n = n
  none-apply j (Sweep by) h n = any_less (is_from p o r) (λ l. not (is_past j.shift l.last)) j.loans n
  none-apply j (AllowSet by set on right depth) h n =
      ap (any (is_from p o r)) (loans-granted (map (λ i. grant i on right depth) (members_of set)) j) ∙ n

  none-step : (j : Journal) (c : Command) → lends_from p o r c ≡ false → any (is_from p o r) j.loans ≡ false
      → any (is_from p o r) (step j c).loans ≡ false
  none-step j c h n = by_cases (eqb (answered j c) 0) (λ e. rw e (none-apply j c h n)) (λ e. rw e n)

-- what no command but some breaks holds after any others
module _ {S : Type 0} (answer : S → Command → ℕ) (next : S → Command → S) (P : S → Type 0) (breaks : Command → Bool)
    (holds : (s : S) (c : Command) → breaks c ≡ false → P s → P (next s c)) where
  pub holds_on : (cs : List Command) (s : S) → any breaks cs ≡ false → P s → P (finally answer next s cs)
  unfolding any
  holds_on [] s h q = q
  holds_on (c ∷ cs) s h q =
      let k = neither (breaks c) (any breaks cs) h in
      holds_on cs (next s c) k.1 (holds s c k.0 q)

stays_clean : (j : Journal) (p o r : ℕ) → any (is_from p o r) j.loans ≡ false → StaysClean answered step standing standing_loan j p o r
stays_clean j p o r n cs h l w f =
    let k : Journal = finally answered step j cs in
    let m : any (is_from p o r) k.loans ≡ false
    = holds_on answered step (λ i. any (is_from p o r) i.loans ≡ false) (lends_from p o r) (none-step p o r) cs j h n in
    by_cases (standing_loan k l)
    (λ t. absurd (false≢true (sym m ∙ any_same (is_from p o r) same_loan same_loan_lem l k.loans t f))) (λ t. t)

-- ---- withdraw and drop
module _ (j : Journal) (v : Inv j) (by to on right : ℕ) where
  -- withdraw leaves the person no grant there, and every other grant
  abbrev left : List Grant
  left = keep (λ g. not (is_to to on right g)) j.grants

  nothing_held_lem : any (is_to to on right) left ≡ false
  nothing_held_lem = any_gone (is_to to on right) (λ g. not (is_to to on right g)) j.grants (λ g e. ap not e)

  other_held : (l : Loan) → is_from to on right l ≡ false
      → any (is_to l.lender l.item l.right) left ≡ any (is_to l.lender l.item l.right) j.grants
  other_held l n =
      any_kept (is_to l.lender l.item l.right) (λ g. not (is_to to on right g)) (λ g. true) true j.grants (all_true j.grants)
      (λ g k e. let q = to-parts l.lender l.item l.right g e in rw (q.0, q.1, q.2) (ap not n))
      ∙ and-true _

  -- its loans: those of a person with a grant there end
  withdrawn-loans : (apply j (Withdraw by to on right)).loans
      ≡ keep (λ l. not (has_grant j to on right && is_from to on right l)) j.loans
  withdrawn-loans =
      ap (λ (i : Journal). i.loans) (dropped_is (of_each_depth to on right) j)
      ∙ ap (λ (gs : List Grant). keep (λ l. not (last_ends j.grants gs l.lender l.item l.right)) j.loans)
      (ap (λ (i : Journal). i.grants) (sym (dropped_is (of_each_depth to on right) j)) ∙ withdraw-grants j v by to on right)
      ∙ keep_cong _ _ (λ l. true) j.loans (all_true j.loans)
      (λ l k. ap not
      (sym (lost_there (λ gs p o r. any (is_to p o r) gs) (λ (l : Loan). l.lender) (λ (l : Loan). l.item) (λ (l : Loan). l.right)
      j.grants left to on right other_held l)
      ∙ ap (λ b. (has_grant j to on right && not b) && is_from to on right l) nothing_held_lem
      ∙ ap (λ b. b && is_from to on right l) (and-true (has_grant j to on right))))

  none_kept : (b : Bool) → b ≡ true → any (is_from to on right) (keep (λ l. not (b && is_from to on right l)) j.loans) ≡ false
  none_kept b t = any_gone (is_from to on right) (λ l. not (b && is_from to on right l)) j.loans (λ l e. ap not (both t e))

  -- a person with a grant there has no loan left there
  none_left : answered j (Withdraw by to on right) ≡ 0 → holding answered step standing standing_loan j to on right ≡ true
      → any (is_from to on right) (step j (Withdraw by to on right)).loans ≡ false
  none_left e h =
      ap (λ (i : Journal). any (is_from to on right) i.loans) (stepped j (Withdraw by to on right) e)
      ∙ ap (any (is_from to on right)) withdrawn-loans ∙ none_kept _ (sym (holding_is j v to on right) ∙ h)

  pub journal_ends-loans : EndsLoans answered step standing standing_loan j by to on right
  journal_ends-loans = record {
    withdraw =
        λ e l w. ap (λ (i : Journal). standing_loan i l) (stepped j (Withdraw by to on right) e)
        ∙ ap (any (same_loan l)) withdrawn-loans ∙ kept_loan _ l j.loans
        ∙ ap (λ b. standing_loan j l && not (b && is_from to on right l)) (sym (holding_is j v to on right));
    drop = dropped-loan;
    withdraw_clean = λ e h. stays_clean (step j (Withdraw by to on right)) to on right (none_left e h);
    drop_clean =
        λ depth e h n. stays_clean (step j (Drop by to on right depth)) to on right
        (ap (λ (i : Journal). any (is_from to on right) i.loans) (stepped j (Drop by to on right depth) e)
        ∙ none_kept _ (both (sym (holding_is j v to on right) ∙ h) (ap not (sym (after depth e) ∙ n))));
  }
    where
      after : (depth : ℕ) → answered j (Drop by to on right depth) ≡ 0
          → holding answered step standing standing_loan (step j (Drop by to on right depth)) to on right
          ≡ any (is_to to on right) (less_grant j.grants (grant to on right depth))
      after depth e =
          ap (λ (i : Journal). any (λ d. standing i (grant to on right d)) depths) (stepped j (Drop by to on right depth) e)
          ∙ holding_is (dropped j (grant to on right depth)) (ended-inv j (grant to on right depth ∷ []) v) to on right

      dropped-loan : (depth : ℕ) → answered j (Drop by to on right depth) ≡ 0 → (l : Loan) → ranged_loan l ≡ true
          → standing_loan (step j (Drop by to on right depth)) l
          ≡ standing_loan j l && not ((holding answered step standing standing_loan j to on right
          && not (holding answered step standing standing_loan (step j (Drop by to on right depth)) to on right)) && is_from to on right l)
      dropped-loan depth e l w =
          ap (λ (i : Journal). standing_loan i l) (stepped j (Drop by to on right depth) e)
          ∙ kept_loan _ l j.loans
          ∙ rw (holding_is j v to on right, after depth e)

-- ---- nobody gains
fewer_chains : (gs : List Grant) (j : Journal) (o r : ℕ) {ps : List ℕ} {p a : ℕ} → JournalChain (dropped_all j gs) o r ps p a
    → JournalChain j o r ps p a
fewer_chains gs j o r {ps} {p} {a} c =
    chain-map (λ (l : Loan). l.lender) (λ (l : Loan). l.borrower) (λ (l : Loan). l.depth) (λ (l : Loan). l.lender)
    (λ (l : Loan). l.borrower) (λ (l : Loan). l.depth) _ _ _ _
    (λ p e g. any_fewer (same_grant (grant p o r e)) _ j.grants g)
    (λ l s. (l, (any_fewer (same_loan l) _ j.loans s.0, s.1, s.2, s.3), refl, refl, refl))
    (subst (λ (i : Journal). JournalChain i o r ps p a) (dropped_is gs j) c)

pub journal_gains_nobody : (j : Journal) → GainsNobody step JournalChain j
journal_gains_nobody j = record {
  withdraw =
      λ by to on right o r c. stepwise (Withdraw by to on right) o r (fewer_chains (of_each_depth to on right) j o r) c;
  drop = λ by to on right depth o r c. stepwise (Drop by to on right depth) o r (fewer_chains (grant to on right depth ∷ []) j o r) c;
}
  where
    stepwise : (c : Command) (o r : ℕ) {ps : List ℕ} {p a : ℕ} → (JournalChain (apply j c) o r ps p a → JournalChain j o r ps p a)
        → JournalChain (step j c) o r ps p a → JournalChain j o r ps p a
    stepwise c o r {ps} {p} {a} f = go (eqb (answered j c) 0)
      where
        go : (b : Bool) → JournalChain (cond b (apply j c) j) o r ps p a → JournalChain j o r ps p a
        go true x = f x
        go false x = x

-- ---- a new allow
-- a chain that goes on from p has a loan of p's; one that does not ends with p, or needs no new grant
opens-to-one : (j : Journal) (p o r d : ℕ) → any (is_from p o r) j.loans ≡ false → OpensToOne j p o r d
opens-to-one j p o r d n ps q a c other = go c other
  where
    theirs : (l : Loan) → LoanCarries j o r l → l.lender ≡ p → any (is_from p o r) j.loans ≡ true
    theirs l s e =
        any_same (is_from p o r) same_loan same_loan_lem l j.loans s.0
        (both (both (eq-eqb l.lender p e) (eq-eqb l.item o s.1)) (eq-eqb l.right r s.2))

    go : {ps : List ℕ} {q a : ℕ} → JournalChain (journal.granted j (grant p o r d)) o r ps q a → (q ≡ p → ⊥) → JournalChain j o r ps q a
    go (granted {p = q} {e} g) other =
        granted
        (either _ _ (sym (any-add (same_grant (grant q o r e)) same_grant same_grant_lem (grant p o r d) j.grants) ∙ g)
        (λ t. absurd (other (ap (λ (x : Grant). x.person) (same_grant_lem (grant q o r e) (grant p o r d) t)))) (λ t. t))
    go (lent l s c) other = lent l s (go c (λ e. absurd (false≢true (sym n ∙ theirs l s e))))

pub allow-after-withdraw : (j : Journal) → Inv j → (by to on right : ℕ) → answered j (Withdraw by to on right) ≡ 0
    → holding answered step standing standing_loan j to on right ≡ true → (cs : List Command) → any (lends_from to on right) cs ≡ false
    → (d : ℕ) → OpensToOne (finally answered step (step j (Withdraw by to on right)) cs) to on right d
allow-after-withdraw j v by to on right e h cs n d =
    opens-to-one (finally answered step (step j (Withdraw by to on right)) cs) to on right d
    (holds_on answered step (λ i. any (is_from to on right) i.loans ≡ false) (lends_from to on right) (none-step to on right) cs
    (step j (Withdraw by to on right)) n (none_left j v by to on right e h))
