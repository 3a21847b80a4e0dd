-- The chain unit's images are a function of the journal, and its commands follow it.
use mathlib.Core.Path.{◌≡◌, refl, sym, ap, ap₂, ◌∙◌}
use mathlib.Core.Bool.{Bool, true, false, not, ◌&&◌, cond, false≢true}
use mathlib.Core.List.{[]}
use Prim.Native.Nat.{ℕ}
use borrow.Author.Tests.{eqb-true, eq-eqb, le-leb}
use lib.ListN.{length}
use lib.Dec.{eqb, leb, ltb}
use Rattle.model.specs.declared.Command.{Command}
use Rattle.model.specs.declared.Arguments.{Arguments}
use Rattle.bits.specs.Sets.{all, keep, count}
use Rattle.model.specs.Commands.{arguments_of, is_sweep, fits}
use Rattle.layouts.specs.Machine.{answer_of, counted_of, step_of}
use Rattle.model.specs.Journal.{Grant, Loan, Journal, loan_in, same_grant, carries, is_past, is_dated, lives, standing, facts, answered, fresh, apply, step, counted}
use Rattle.layouts.specs.Layouts.{grant_bytes, grant_cells, live_in}
use Rattle.delegation.specs.Loans.{word_of, word_dated, word_past, word_good, shift_in, used, loan_words, fresh_header, loans_image}
use Rattle.delegation.specs.Images.{images, standing_in}
use Rattle.delegation.specs.ChainUnit.{chain_guarded, chain_unit, chain_facts, chain_after, chain_fresh}
use Rattle.bits.proofs.Sets.{fst, snd, both, by_cases, find, any_cong, all_mono, all_keep, count-keep}
use Rattle.model.proofs.Commands.{ranged_command}
use Rattle.model.proofs.Invariant.{same_grant_lem, loans-ranged, keep-loans}
use Rattle.model.specs.Invariant.{ranged, sound, Inv, ranged_loan, sound_loan, LoanInv, Kept}
use Rattle.model.proofs.Answers.{table_same}
use Rattle.layouts.proofs.Layouts.{bytes_laws, place_same, live_of, members_of_lem, bit-at_of, length_of_lem, held_of, order_of, fresh_of_lem}
use Rattle.model.proofs.AllowSet.{answered-table}
use Rattle.delegation.proofs.Loans.{word_fields, sorted, keep-sorted, length-sorted, rising-sorted, all-sorted, any-sorted, word_in, used_of, count_of_lem, shift_of, length-loans, order-loans}
use Rattle.delegation.proofs.Steps.{grants_of, header_for, images_of, few, few_sorted, word_past_lem, chain_after_lem}

-- ---- in order
word_good_lem : (j : Journal) (l : Loan) → sound_loan (lives j) l ≡ true → word_good (live_in grant_bytes (grants_of j)) (word_of l) ≡ true
word_good_lem j l h =
    let r : ranged_loan l ≡ true = search (fst, snd) in
    let z : not (eqb l.right 0) ≡ true = search (fst, snd) in
    let a : leb l.lender 63 ≡ true = search (fst, snd) in
    let b : leb l.item 63 ≡ true = search (fst, snd) in
    let c : leb l.borrower 63 ≡ true = search (fst, snd) in
    let a' : lives j l.lender ≡ true = search (fst, snd) in
    let b' : lives j l.item ≡ true = search (fst, snd) in
    let c' : lives j l.borrower ≡ true = search (fst, snd) in
    let f = word_fields l r in
    rw (f.0, f.1, f.2, f.3)
    (both (both (both z (live_of grant_bytes bytes_laws j l.lender a ∙ a'))
    (live_of grant_bytes bytes_laws j l.item b ∙ b')) (live_of grant_bytes bytes_laws j l.borrower c ∙ c'))

pub guard_chain : (j : Journal) → Kept j → (n : ℕ) → chain_guarded (images_of j) true n ≡ n
guard_chain j v n =
    let k = few_sorted j v.loan-inv in
    rw (
      eq-eqb (length (grants_of j)) grant_cells (unfold grant_bytes in (length_of_lem grant_bytes bytes_laws j)),
      eq-eqb (length (images_of j).loans) loan_words (length-loans (header_for j) (sorted j.loans) k),
      order_of grant_bytes bytes_laws j v.inv,
      order-loans (live_in grant_bytes (grants_of j)) (header_for j) (sorted j.loans) v.loan-inv.shift_in k (rising-sorted j.loans)
          (all-sorted _ j.loans (all_mono (sound_loan (lives j)) _ j.loans v.loan-inv.loans-sound (word_good_lem j))),
    )

-- ---- a command's number
full_of : (j : Journal) → LoanInv j → (a : Arguments) → fits a ≡ true → (chain_facts (images_of j) a).full ≡ (facts j a).full
full_of j v a h =
    let k = few_sorted j v in
    rw (
      count_of_lem (header_for j) (sorted j.loans) k,
      used_of (header_for j) (sorted j.loans) k,
      few j v,
      word_in (loan_in a)
          j.loans h (loans-ranged j v),
    )

back_of : (j : Journal) → LoanInv j → (a : Arguments) → (chain_facts (images_of j) a).back ≡ (facts j a).back
back_of j v a =
    let k = few_sorted j v in
    rw (shift_of (header_for j) (sorted j.loans) k, used_of (header_for j) (sorted j.loans) k)
    (ap (λ b. ltb a.shift j.shift && b)
    (any-sorted word_dated j.loans
    ∙ any_cong (λ l. word_dated (word_of l)) is_dated ranged_loan j.loans (loans-ranged j v)
    (λ l h. ap (λ (n : ℕ). not (eqb n 0)) (word_fields l h).5)))

past_of : (j : Journal) → LoanInv j → (a : Arguments) → (chain_facts (images_of j) a).past ≡ (facts j a).past
past_of j v a = ap (λ (n : ℕ). not (carries n a.shift)) (shift_of (header_for j) (sorted j.loans) (few_sorted j v))

pub answer-chain : (j : Journal) → Kept j → (c : Command) → answer_of chain_unit (images_of j) c ≡ answered j c
answer-chain j v c =
    let a = arguments_of c in
    guard_chain j v _
    ∙ by_cases (fits a)
    (λ t. let r = ranged_command a t in
    rw t (table_same (chain_facts (images_of j) a) (facts j a) (live_of grant_bytes bytes_laws j _ (le-leb _ 63 r.by))
    (live_of grant_bytes bytes_laws j _ (le-leb _ 63 r.on)) (live_of grant_bytes bytes_laws j _ (le-leb _ 63 r.to))
    (members_of_lem grant_bytes bytes_laws j a.set)
    (held_of grant_bytes bytes_laws j v.inv _ _ 0 (both (both (le-leb _ 63 r.by) (le-leb _ 63 r.on)) refl)) a
    (λ n. back_of j v.loan-inv a) (λ n. past_of j v.loan-inv a) (λ n. full_of j v.loan-inv a t)))
    (λ t. rw t)
    ∙ sym (answered-table j c)

pub step-chain : (j : Journal) → Kept j → (c : Command) → step_of chain_unit (images_of j) c ≡ images_of (step j c)
step-chain j v c = rw (answer-chain j v c) (go (eqb (answered j c) 0) refl)
  where
    go : (b : Bool) → eqb (answered j c) 0 ≡ b
        → cond b (chain_after (images_of j) (arguments_of c)) (images_of j) ≡ images_of (cond b (apply j c) j)
    go true e = chain_after_lem j v c (eqb-true (answered j c) 0 e)
    go false e = refl

-- ---- and its count
-- as many loan words are past as loans of the journal
past-count : (j : Journal) → Kept j
    → count (word_past (shift_in (images_of j).loans)) (used (images_of j).loans) ≡ count (λ (l : Loan). is_past j.shift l.last) j.loans
past-count j v =
    let past : Loan → Bool = λ l. is_past j.shift l.last in
    let ranged-past : all ranged_loan (keep past j.loans) ≡ true
    = all_mono _ ranged_loan (keep past j.loans) (all_keep ranged_loan past j.loans (loans-ranged j v.loan-inv))
    (λ l h. fst (ranged_loan l) (past l) h) in
    ap (count (word_past (shift_in (images_of j).loans))) (used_of (header_for j) (sorted j.loans) (few_sorted j v.loan-inv))
    ∙ count-keep _ (sorted j.loans)
    ∙ ap length (keep-sorted past _ ranged_loan j.loans (loans-ranged j v.loan-inv) (word_past_lem j v))
    ∙ length-sorted (keep past j.loans) ranged-past (keep-loans j past v.loan-inv).1
    ∙ sym (count-keep past j.loans)

pub count-chain : (j : Journal) → Kept j → (c : Command) → counted_of chain_unit (images_of j) c ≡ counted j c
count-chain j v c =
    ap₂ (λ (n k : ℕ). cond (eqb n 0) (cond (is_sweep c) k 0) 0) (answer-chain j v c) (past-count j v)

pub fresh-chain : chain_fresh ≡ images_of fresh
unfolding chain_fresh fresh sorted fresh_header
fresh-chain = ap (λ g. images g (loans_image fresh_header [])) (fresh_of_lem grant_bytes bytes_laws)

-- ---- what stands in the images stands in the journal
pub stands-ranged : (j : Journal) → Inv j → (g : Grant) → standing j g ≡ true → ranged g ≡ true
stands-ranged j v g h =
    let f = find (same_grant g) (sound (lives j)) j.grants v.grants-sound h in
    rw (same_grant_lem g f.0 f.2) (fst (ranged f.0) _ f.1)

pub standing_of : (j : Journal) → Inv j → (g : Grant) → standing_in (grants_of j) g ≡ standing j g
standing_of j v g =
    by_cases (ranged g)
    (λ r. rw r
    (bit-at_of grant_bytes bytes_laws j (grant_bytes.place g) (bytes_laws.below g r)
    ∙ any_cong (λ h. eqb (grant_bytes.place h) (grant_bytes.place g)) (same_grant g) (sound (lives j)) j.grants v.grants-sound
    (λ h k. place_same g h r (fst (ranged h) _ k))))
    (λ r. rw r
    (by_cases (standing j g) (λ t. absurd (false≢true (sym r ∙ stands-ranged j v g t))) (λ t. sym t)))
