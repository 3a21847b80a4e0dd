-- Demand 3: fed any list of commands from the start, the three units agree with the journal. Each unit's image is a function of the
-- journal that it is held to, and each command keeps it so; lists and rows are held to a journal of their own commands, and where no
-- drop comes that one is alike to the whole journal in live items and grants.
use mathlib.Core.Path.{◌≡◌, refl, sym, ap, ap₂, ◌∙◌, subst}
use mathlib.Core.Bool.{Bool, true, false, not, ◌&&◌, cond, false≢true}
use mathlib.Core.Logic.{◌↔◌, by_cases}
use native.Mathlib.Decide.{ℕ_discrete}
use mathlib.Core.List.{List, [], ◌∷◌}
use Prim.Native.Nat.{ℕ, ◌+◌, ◌≤◌, ◌<◌}
use borrow.Author.Tests.{eqb-true, eq-eqb, ne_eqb, leb-true}
use lib.ListN.{length, get_or, take}
use lib.Dec.{eqb, leb}
use Rattle.model.specs.declared.Command.{Command}
use Rattle.bits.specs.Sets.{any, all, keep}
use Rattle.model.specs.Commands.{items, right_depth, arguments_of, fits, members_of}
use Rattle.model.specs.Answers.{flat, asked, Found, nothing}
use Rattle.model.specs.Journal.{Loan, Journal, grant, same_loan, is_to, carries, standing_loan, apply, LoanCarries, facts, answered, fresh, step, run, is_drop}
use Rattle.layouts.specs.Layouts.{Layout, lists, rows, grant_bytes, flat_unit}
use Rattle.layouts.specs.Machine.{step_of}
use Rattle.model.specs.Chain.{granted, lent, Meets, FewestPersons, NobodyTwice, JournalChain, JournalAccess}
use Rattle.delegation.specs.Loans.{last_shift, lender, borrower, loan_depth, loan_item, loan_right, word_of, shift_in, used}
use Rattle.delegation.specs.Images.{Images, WordCarries, ImageChain}
use Rattle.delegation.specs.ChainUnit.{chain_check_number, chain_found, chain_buffer}
use Rattle.agreement.specs.Agreement.{Units, fresh_units, FlatAgrees, ChainAgrees, Agrees, Answers, called, Follows, Agreement, flat_step, fed}
use Rattle.agreement.specs.Examples.{calls}
use Rattle.bits.proofs.Sets.{fst, snd, both, find, found}
use Rattle.bits.proofs.Sets as sets
use Rattle.model.proofs.Chain.{chain_length, chain-map, meets-map, meets_access, access_iff, meets-persons, given, nobody_twice}
use Rattle.model.specs.Invariant.{ranged, Inv, ranged_loan, Kept, Alike}
use Rattle.model.proofs.Invariant.{neither, same_loan_lem, loan_self, inv-fresh, loans-ranged}
use Rattle.layouts.specs.Laws.{Laws, image_of}
use Rattle.layouts.proofs.Layouts.{lists-laws, rows-laws, bytes_laws, guard_of, check_of, answer_of_lem, fresh_of_lem, cells_of}
use Rattle.model.proofs.Answers.{table-flat}
use Rattle.model.proofs.AllowSet.{answered-table}
use Rattle.delegation.proofs.Rules.{check_meets}
use Rattle.delegation.proofs.Loans.{word_fields, word_in, sorted, any-sorted, used_of, shift_of}
use Rattle.model.proofs.Steps.{inv-step, kept_fresh, kept_step, kept_run, flat_lends, alike_apply}
use Rattle.layouts.proofs.Steps.{step_of_lem}
use Rattle.delegation.proofs.Steps.{grants_of, header_for, images_of, few_sorted}
use Rattle.delegation.proofs.ChainUnit.{guard_chain, answer-chain, count-chain, step-chain, fresh-chain, stands-ranged, standing_of}

-- ---- lists and rows
flat_agrees : (L : Layout) (W : Laws L) (j : Journal) → Inv j → FlatAgrees L j (image_of L j)
flat_agrees L W j v = record {
  number = λ p o r. guard_of L W j v (asked p o r);
  yes = λ p o r. check_of L W j v p o r;
  unchanged = λ p o r. refl;
}

-- a unit that lacks the command is not called
flat-called : (L : Layout) (W : Laws L) (k : Journal) (c : Command) → Inv k
    → cond (flat c) (step_of (flat_unit L) (image_of L k) c) (image_of L k) ≡ image_of L (flat_step k c)
flat-called L W k c v = sets.by_cases (flat c) (λ t. rw t (step_of_lem L W k v c t)) (λ t. rw t)

inv-flat : (k : Journal) (c : Command) → Inv k → Inv (flat_step k c)
inv-flat k c v = sets.by_cases (flat c) (λ t. rw t (inv-step k c v)) (λ t. rw t v)

-- ---- the chains of a journal's images are the journal's
module _ (j : Journal) (v : Kept j) (o r : ℕ) where
  loan-ranged : (l : Loan) → any (same_loan l) j.loans ≡ true → ranged_loan l ≡ true
  loan-ranged l h =
      let f = find (same_loan l) ranged_loan j.loans (loans-ranged j v.loan-inv) h in
      ap ranged_loan (same_loan_lem l f.0 f.2) ∙ f.1

  shift_is : shift_in (images_of j).loans ≡ j.shift
  shift_is = shift_of (header_for j) (sorted j.loans) (few_sorted j v.loan-inv)

  -- a loan of the image, in the journal
  word_loan : (w : ℕ) → WordCarries (images_of j).loans o r w
      → (l : Loan) × LoanCarries j o r l × (l.lender ≡ lender w) × (l.borrower ≡ borrower w) × (l.depth ≡ loan_depth w)
  word_loan w s =
      let m : any (λ l. eqb w (word_of l)) j.loans ≡ true
      = sym (any-sorted (eqb w) j.loans)
      ∙ ap (any (eqb w)) (sym (used_of (header_for j) (sorted j.loans) (few_sorted j v.loan-inv))) ∙ s.0 in
      let f = found (λ l. eqb w (word_of l)) same_loan loan_self j.loans m in
      let e : w ≡ word_of f.0 = eqb-true w (word_of f.0) f.1 in
      let k = word_fields f.0 (loan-ranged f.0 f.2) in (
        f.0,
        (
          f.2,
          sym k.1 ∙ ap loan_item (sym e) ∙ s.1,
          sym k.2 ∙ ap loan_right (sym e) ∙ s.2,
          ap₂ carries (sym shift_is) (sym k.5 ∙ ap last_shift (sym e)) ∙ s.3,
        ),
        sym k.0 ∙ ap lender (sym e),
        sym k.3 ∙ ap borrower (sym e),
        sym k.4 ∙ ap loan_depth (sym e),
      )

  -- and back
  loan_word : (l : Loan) → LoanCarries j o r l
      → (w : ℕ) × WordCarries (images_of j).loans o r w × (lender w ≡ l.lender) × (borrower w ≡ l.borrower) × (loan_depth w ≡ l.depth)
  loan_word l s =
      let g = loan-ranged l s.0 in
      let k = word_fields l g in (
        word_of l,
        (
          ap (any (eqb (word_of l))) (used_of (header_for j) (sorted j.loans) (few_sorted j v.loan-inv))
              ∙ word_in l j.loans g (loans-ranged j v.loan-inv) ∙ s.0,
          k.1 ∙ s.1,
          k.2 ∙ s.2,
          ap₂ carries shift_is k.5 ∙ s.3,
        ),
        k.0,
        k.3,
        k.4,
      )

  to_journal : (ps : List ℕ) (p a : ℕ) → ImageChain (images_of j) o r ps p a → JournalChain j o r ps p a
  to_journal ps p a c =
      chain-map lender borrower loan_depth (λ (l : Loan). l.lender) (λ (l : Loan). l.borrower) (λ (l : Loan). l.depth) _ _ _ _
      (λ q e h. sym (standing_of j v.inv (grant q o r e)) ∙ h) word_loan c

  to-images : (ps : List ℕ) (p a : ℕ) → JournalChain j o r ps p a → ImageChain (images_of j) o r ps p a
  to-images ps p a c =
      chain-map (λ (l : Loan). l.lender) (λ (l : Loan). l.borrower) (λ (l : Loan). l.depth) lender borrower loan_depth _ _ _ _
      (λ q e h. standing_of j v.inv (grant q o r e) ∙ h) loan_word c

  -- every chain is within the limits
  chain-asked : {ps : List ℕ} {p a : ℕ} → JournalChain j o r ps p a → items p o && right_depth r 0 ≡ true
  chain-asked (granted {p} {e} h) =
      let k : ranged (grant p o r e) ≡ true = stands-ranged j v.inv (grant p o r e) h in search (fst, snd, both)
  chain-asked (lent l s c) =
      let k : ranged_loan l ≡ true = loan-ranged l s.0 in
      let a : leb l.borrower 63 ≡ true = search (fst, snd) in
      let b : leb l.item 63 ≡ true = search (fst, snd) in
      let d : leb l.right 7 ≡ true = search (fst, snd) in
      both (both a (ap (λ (n : ℕ). leb n 63) (sym s.1) ∙ b)) (both (ap (λ (n : ℕ). leb n 7) (sym s.2) ∙ d) refl)

bytes_of : (j : Journal) (i : ℕ) → get_or (grants_of j) i 0 < 256
bytes_of j i = unfold grant_bytes in (cells_of grant_bytes bytes_laws j i)

-- no chain of a journal has more than 8 persons
pub journal_short : (j : Journal) → Kept j → {o r : ℕ} {ps : List ℕ} {p a : ℕ} → JournalChain j o r ps p a → length ps + a ≤ 8
journal_short j v {o} {r} c =
    chain_length (λ p e h. let k : ranged (grant p o r e) ≡ true = stands-ranged j v.inv (grant p o r e) h in
    search (fst, snd, leb-true)) c

-- where nothing is found there is no yes
no-yes : {f : Found} → f ≡ nothing → f.yes ≡ true → ⊥
no-yes e y = false≢true (ap (λ (f : Found). f.yes) (sym e) ∙ y)

-- a check of the journal's images, beyond the limits and within them
module _ (j : Journal) (v : Kept j) (buffer : List ℕ) (l : length buffer ≡ 8) (p o r : ℕ) where
  number_is : chain_check_number (images_of j) buffer p o r ≡ asked p o r
  number_is = rw (eq-eqb (length buffer) 8 l) (guard_chain j v (asked p o r))

  meets_of : asked p o r ≡ 0 → Meets (λ ps a. JournalChain j o r ps p a) (chain_found (images_of j) buffer p o r)
      (chain_buffer (images_of j) buffer p o r)
  meets_of e =
      meets-map (check_meets (images_of j) (bytes_of j) buffer p o r (number_is ∙ e)) (λ ps a. to_journal j v o r ps p a)
      (λ ps a. to-images j v o r ps p a)

  beyond_of : (asked p o r ≡ 0 → ⊥)
      → (chain_found (images_of j) buffer p o r ≡ nothing) × (chain_buffer (images_of j) buffer p o r ≡ buffer)
      × ((ps : List ℕ) (a : ℕ) → JournalChain j o r ps p a → ⊥)
  beyond_of ne =
      let f : eqb (chain_check_number (images_of j) buffer p o r) 0 ≡ false = ne_eqb _ 0 (λ z. ne (sym number_is ∙ z)) in
      (rw f, rw f, λ ps a c. ne (rw (chain-asked j v o r c)))

  rules_of : (d : ℕ) → JournalAccess j p o r d ↔ ((chain_found (images_of j) buffer p o r).yes ≡ true)
      × (d ≤ (chain_found (images_of j) buffer p o r).depth)
  rules_of d =
      by_cases (ℕ_discrete (asked p o r) 0) (λ e. meets_access _ _ _ _ _ p o r (meets_of e) d)
      (λ ne. let b = beyond_of ne in (
        λ t. let e = (access_iff _ _ _ _ _ p o r d).0 t in absurd (b.2 e.0 e.1 e.3),
        λ q. absurd (no-yes b.0 q.0),
      ))

  persons_of : (n : ℕ) → FewestPersons (λ ps a. JournalChain j o r ps p a) n
      ↔ ((chain_found (images_of j) buffer p o r).yes ≡ true) × ((chain_found (images_of j) buffer p o r).persons ≡ n)
  persons_of n =
      by_cases (ℕ_discrete (asked p o r) 0) (λ e. meets-persons (meets_of e) n)
      (λ ne. let b = beyond_of ne in (
        λ t. absurd (b.2 t.0.persons t.0.depth t.0.chain),
        λ q. absurd (no-yes b.0 q.0),
      ))

chain_agrees : (j : Journal) → Kept j → ChainAgrees j (images_of j)
chain_agrees j v = record {
  number = number_is j v;
  meets = meets_of j v;
  beyond = beyond_of j v;
  rules = rules_of j v;
  persons = persons_of j v;
  unchanged = λ buffer p o r. refl;
}

-- a unit that agrees with a journal writes no chain that names somebody twice
pub chain_nobody_twice : (j : Journal) (s : Images) → ChainAgrees j s → (buffer : List ℕ) → length buffer ≡ 8 → (p o r : ℕ)
    → (chain_found s buffer p o r).yes ≡ true → NobodyTwice (take (chain_found s buffer p o r).persons (chain_buffer s buffer p o r))
chain_nobody_twice j s a buffer l p o r y =
    by_cases (ℕ_discrete (asked p o r) 0) (λ e. nobody_twice (given (a.meets buffer l p o r e) y))
    (λ ne. absurd (no-yes (a.beyond buffer l p o r ne).0 y))

-- ---- the units of two journals
abbrev pub units_of : Journal → Journal → Units
units_of j k = record { lists = image_of lists k; rows = image_of rows k; chains = images_of j }

abbrev units : List ℕ → List ℕ → Images → Units
units a b c = record { lists = a; rows = b; chains = c }

agrees_of : (j k : Journal) → Kept j → Inv k → Agrees j k (units_of j k)
agrees_of j k v w = record { list = flat_agrees lists lists-laws k w; row = flat_agrees rows rows-laws k w; chain = chain_agrees j v }

answers_of : (j k : Journal) → Kept j → Inv k → (c : Command) → Answers j k (units_of j k) c
answers_of j k v w c = record {
  list = λ h. answer_of_lem lists lists-laws k w c (flat_lends c h);
  row = λ h. answer_of_lem rows rows-laws k w c (flat_lends c h);
  chain = answer-chain j v c;
  count = count-chain j v c;
}

called_of : (j k : Journal) → Kept j → Inv k → (c : Command) → called (units_of j k) c ≡ units_of (step j c) (flat_step k c)
called_of j k v w c =
    λ i. units (flat-called lists lists-laws k c w i) (flat-called rows rows-laws k c w i) (step-chain j v c i)

follows : (cs : List Command) (j k : Journal) → Kept j → Inv k → Follows flat_step j k (units_of j k) cs
follows [] j k v w = agrees_of j k v w
follows (c ∷ cs) j k v w = (
  agrees_of j k v w,
  answers_of j k v w c,
  subst (λ u. Follows flat_step (step j c) (flat_step k c) u cs) (sym (called_of j k v w c))
      (follows cs (step j c) (flat_step k c) (kept_step j c v) (inv-flat k c w)),
)

fresh_units_lem : fresh_units ≡ units_of fresh fresh
unfolding fresh_units
fresh_units_lem = λ i. units (fresh_of_lem lists lists-laws i) (fresh_of_lem rows rows-laws i) (fresh-chain i)

-- before the first command and after each, for every list of commands: the chain unit follows the journal, lists and rows one of their own
own_agreement : (cs : List Command) → Follows flat_step fresh fresh fresh_units cs
own_agreement cs = subst (λ u. Follows flat_step fresh fresh u cs) (sym fresh_units_lem) (follows cs fresh fresh kept_fresh inv-fresh)

-- ---- the journals of lists and rows and of the chain unit are alike where no drop comes
alike_answered : {j k : Journal} → Alike j k → (c : Command) → flat c ≡ true → answered j c ≡ answered k c
alike_answered {j} {k} a c h =
    let x = arguments_of c in
    answered-table j c
    ∙ ap (λ (n : ℕ). cond (not (fits x)) 3 n)
    (table-flat (facts j x) (facts k x) (ap (any (eqb x.by)) a.live) (ap (any (eqb x.on)) a.live)
    (ap (any (eqb x.to)) a.live) (ap (λ (is : List ℕ). all (λ i. any (eqb i) is) (members_of x.set)) a.live)
    (ap (any (is_to x.by x.on 0)) a.grants) x (flat_lends c h))
    ∙ sym (answered-table k c)

alike_step : {j k : Journal} → Alike j k → (c : Command) → is_drop c ≡ false → Alike (step j c) (flat_step k c)
alike_step {j} {k} a c n =
    go (flat c) (eqb (answered j c) 0) (eqb (answered k c) 0) refl (λ h. ap (λ (n : ℕ). eqb n 0) (alike_answered a c h))
  where
    -- an accepted command, as lists and rows have it or not
    done : (f : Bool) → flat c ≡ f → Alike (apply j c) (cond f (apply k c) k)
    done f h = subst (λ b. Alike (apply j c) (cond b (apply k c) k)) h (alike_apply a c n)

    go : (f b d : Bool) → flat c ≡ f → (f ≡ true → b ≡ d) → Alike (cond b (apply j c) j) (cond f (cond d (apply k c) k) k)
    go true true true h e = done true h
    go true false false h e = a
    go true true false h e = absurd (false≢true (sym (e refl)))
    go true false true h e = absurd (false≢true (e refl))
    go false true d h e = done false h
    go false false d h e = a

alike_agrees : {j k : Journal} {u : Units} → Alike j k → Agrees j k u → Agrees j j u
alike_agrees {j} {k} {u} a g = record { list = same lists u.lists g.list; row = same rows u.rows g.row; chain = g.chain }
  where
    same : (L : Layout) (s : List ℕ) → FlatAgrees L k s → FlatAgrees L j s
    same L s f = record {
      number = f.number;
      yes = λ p o r. f.yes p o r ∙ ap (any (is_to p o r)) (sym a.grants);
      unchanged = f.unchanged;
    }

alike_answers : {j k : Journal} {u : Units} {c : Command} → Alike j k → Answers j k u c → Answers j j u c
alike_answers {c = c} a g = record {
  list = λ h. g.list h ∙ sym (alike_answered a c h);
  row = λ h. g.row h ∙ sym (alike_answered a c h);
  chain = g.chain;
  count = g.count;
}

-- a list without drop: its first command is none, and none is in the rest
dropless-parts : (c : Command) (cs : List Command) → any is_drop (c ∷ cs) ≡ false → (is_drop c ≡ false) × (any is_drop cs ≡ false)
unfolding any
dropless-parts c cs h = neither (is_drop c) (any is_drop cs) (ap not h)

alike_follows : (cs : List Command) (j k : Journal) (u : Units) → any is_drop cs ≡ false → Alike j k → Follows flat_step j k u cs
    → Follows step j j u cs
alike_follows [] j k u n a f = alike_agrees a f
alike_follows (c ∷ cs) j k u n a f =
    let m = dropless-parts c cs n in (
      alike_agrees a f.0,
      alike_answers a f.1,
      alike_follows cs (step j c) (flat_step k c) (called u c) m.1 (alike_step a c m.0) f.2,
    )

-- demand 3: before the first command and after each, for every list of commands
pub agreement : (cs : List Command) → Agreement cs
agreement cs = record {
  every = own_agreement cs;
  dropless = λ n. alike_follows cs fresh fresh fresh_units n (record { live = refl; grants = refl }) (own_agreement cs);
}

-- the two journals after a list of commands without drop
pub own_journal : (cs : List Command) (j k : Journal) → any is_drop cs ≡ false → Alike j k → Alike (fed step j cs) (fed flat_step k cs)
own_journal [] j k n a = a
own_journal (c ∷ cs) j k n a =
    let m = dropless-parts c cs n in own_journal cs (step j c) (flat_step k c) m.1 (alike_step a c m.0)

-- what lists and rows follow on every list is the journal after their commands alone
pub own_fed : (cs : List Command) (k : Journal) → fed flat_step k cs ≡ run k (keep flat cs)
unfolding keep
own_fed [] k = refl
own_fed (c ∷ cs) k = sets.by_cases (flat c) (λ t. rw t (own_fed cs (step k c))) (λ t. rw t (own_fed cs k))

-- ---- what the journal promises of its shift and loans (model/proofs/Shifts) holds of the chain unit, whose images are the journal's
pub unit_images : (cs : List Command) → (calls fresh_units cs).chains ≡ images_of (run fresh cs)
unfolding calls
unit_images cs = ap (λ u. (calls u cs).chains) fresh_units_lem ∙ from cs fresh fresh kept_fresh inv-fresh
  where
    from : (cs : List Command) (j k : Journal) → Kept j → Inv k → (calls (units_of j k) cs).chains ≡ images_of (run j cs)
    from [] j k v w = refl
    from (c ∷ cs) j k v w =
        ap (λ u. (calls u cs).chains) (called_of j k v w c) ∙ from cs (step j c) (flat_step k c) (kept_step j c v) (inv-flat k c w)

-- so its shift is the journal's
pub unit_shift : (cs : List Command) → shift_in (calls fresh_units cs).chains.loans ≡ (run fresh cs).shift
unit_shift cs =
    ap (λ (s : Images). shift_in s.loans) (unit_images cs) ∙ shift_is (run fresh cs) (kept_run cs fresh kept_fresh) 0 0

-- and a loan is in use in it exactly where it stands in the journal
pub unit_loan : (cs : List Command) (l : Loan) → ranged_loan l ≡ true
    → any (eqb (word_of l)) (used (calls fresh_units cs).chains.loans) ≡ standing_loan (run fresh cs) l
unit_loan cs l h =
    let j = run fresh cs in
    let v = kept_run cs fresh kept_fresh in
    ap (λ (s : Images). any (eqb (word_of l)) (used s.loans)) (unit_images cs)
    ∙ ap (any (eqb (word_of l))) (used_of (header_for j) (sorted j.loans) (few_sorted j v.loan-inv))
    ∙ word_in l j.loans h (loans-ranged j v.loan-inv)
