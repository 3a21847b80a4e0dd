-- Each command of a chain unit, case by case: what it does to the two images is what it does to the journal.
use mathlib.Core.Path.{◌≡◌, refl, sym, ap, ap₂, ◌∙◌}
use mathlib.Core.Bool.{Bool, true, not, ◌&&◌}
use mathlib.Core.List.{List, [], ◌∷◌, map}
use Prim.Native.Nat.{ℕ, ◌≤◌}
use native.Mathlib.Omega.{arith}
use lib.ListN.{length}
use lib.Dec.{eqb}
use Rattle.model.specs.declared.Command.{Command}
use Rattle.model.specs.declared.Command.TheVariants.{Create, Delete, Allow, Withdraw, Lend, Recall, Shift, AllowSet, Drop, Sweep}
use Rattle.delegation.specs.declared.loan.Header.{Header}
use Rattle.bits.specs.Sets.{all}
use Rattle.model.specs.Commands.{items, right_depth, arguments_of, members_of, most_loans}
use Rattle.model.specs.Journal.{Grant, Loan, Journal, grant, loan, same_loan, loan_names, is_past, has_grant, facts, answered, dropped, dropped_all, of_each_depth, apply}
use Rattle.layouts.specs.Layouts.{grant_bytes, held}
use Rattle.layouts.specs.Layouts as image
use Rattle.delegation.specs.Loans.{word_of, word_names, word_past, shift_in, moved_to, loans_image}
use Rattle.delegation.specs.Images.{Images, images}
use Rattle.delegation.specs.ChainUnit.{chain_dropped, chain_dropped_all, chain_withdrawn, chain_after}
use Rattle.bits.proofs.Sets.{fst, snd, both}
use Rattle.model.proofs.Invariant.{accepted, loans-ranged}
use Rattle.model.proofs.AllowSet.{loans-granted, shift-granted}
use Rattle.model.specs.Invariant.{ranged, ranged_loan, LoanInv, Kept}
use Rattle.layouts.specs.Laws.{image_of}
use Rattle.layouts.proofs.Layouts.{bytes_laws, held_of, created_of, deleted_of, allowed_of, allowed_set_of, same-image}
use Rattle.layouts.proofs.Drops.{dropped_of}
use Rattle.model.proofs.Drop.{ended-inv, ended-loans, eight-ranged}
use Rattle.delegation.proofs.Loans.{word_fields, shift_of, word_names_lem, word_from_lem, word_same, sorted, keep-sorted, sorted-add, length-sorted, kept_of, with_of, at_of}

-- ---- the chain unit
abbrev pub grants_of : Journal → List ℕ
grants_of j = image_of grant_bytes j

-- what the header of the loans says of a journal beside the number of its loans
abbrev pub header_for : Journal → Header
header_for j = record { shift = j.shift; count = 0 }

abbrev loans_of : Journal → List Loan → List ℕ
loans_of j ls = loans_image (header_for j) (sorted ls)

-- the images of a journal
abbrev pub images_of : Journal → Images
images_of j = record { grants = grants_of j; loans = loans_of j j.loans }

pub few : (j : Journal) → LoanInv j → length (sorted j.loans) ≡ length j.loans
few j v = length-sorted j.loans (loans-ranged j v) v.loans-distinct

pub few_sorted : (j : Journal) → LoanInv j → length (sorted j.loans) ≤ most_loans
few_sorted j v = omega (arith, few j v, v.loans_few)

-- one drop, and several
chain_dropped_lem : (j : Journal) → Kept j → (g : Grant) → ranged g ≡ true → chain_dropped (images_of j) g ≡ images_of (dropped j g)
chain_dropped_lem j v g rg =
    let p : ℕ = g.person in
    let o : ℕ = g.item in
    let r : ℕ = g.right in
    let w : items p o && right_depth r 0 ≡ true = search (fst, snd, both) in
    let e : image.dropped grant_bytes (grants_of j) g ≡ grants_of (dropped j g) = dropped_of j v.inv 0 p o r g.depth rg in
    let had : held grant_bytes (grants_of j) p o r ≡ has_grant j p o r = held_of grant_bytes bytes_laws j v.inv p o r w in
    let has : held grant_bytes (image.dropped grant_bytes (grants_of j) g) p o r ≡ has_grant (dropped j g) p o r
    = ap (λ (x : List ℕ). held grant_bytes x p o r) e
    ∙ held_of grant_bytes bytes_laws (dropped j g) (ended-inv j (g ∷ []) v.inv) p o r w in
    ap₂ images e
    (kept_of (header_for j) (sorted j.loans) (few_sorted j v.loan-inv) _
    ∙ ap (loans_image (header_for j))
    (keep-sorted _ _ ranged_loan j.loans (loans-ranged j v.loan-inv)
    (λ l h. ap₂ (λ (x y : Bool). not (x && y)) (ap₂ (λ (x y : Bool). x && not y) had has) (word_from_lem p o r l h))))

chain_dropped_all_lem : (gs : List Grant) (j : Journal) → Kept j → all ranged gs ≡ true
    → chain_dropped_all (images_of j) gs ≡ images_of (dropped_all j gs)
unfolding all
chain_dropped_all_lem [] j v h = refl
chain_dropped_all_lem (g ∷ gs) j v h =
    ap (λ (s : Images). chain_dropped_all s gs) (chain_dropped_lem j v g (fst (ranged g) (all ranged gs) h))
    ∙ chain_dropped_all_lem gs (dropped j g)
    (record { inv = ended-inv j (g ∷ []) v.inv; loan-inv = ended-loans j (g ∷ []) v.loan-inv }) (snd (ranged g) (all ranged gs) h)

-- a loan is past in the images where it is in the journal
pub word_past_lem : (j : Journal) → Kept j → (l : Loan) → ranged_loan l ≡ true
    → word_past (shift_in (images_of j).loans) (word_of l) ≡ is_past j.shift l.last
word_past_lem j v l h =
    ap₂ is_past (shift_of (header_for j) (sorted j.loans) (few_sorted j v.loan-inv)) (word_fields l h).5

pub chain_after_lem : (j : Journal) → Kept j → (c : Command) → answered j c ≡ 0 → chain_after (images_of j) (arguments_of c) ≡ images_of (apply j c)
chain_after_lem j v (Create by on) e = ap (λ g. images g (loans_of j j.loans)) (created_of grant_bytes bytes_laws j v.inv by on)
chain_after_lem j v (Delete by on) e =
    ap₂ images (deleted_of grant_bytes bytes_laws j v.inv by on)
    (kept_of (header_for j) (sorted j.loans) (few_sorted j v.loan-inv) (λ w. not (word_names on w))
    ∙ ap (loans_image (header_for j))
    (keep-sorted (λ l. not (loan_names on l)) (λ w. not (word_names on w)) ranged_loan j.loans (loans-ranged j v.loan-inv)
    (λ l h. ap not (word_names_lem on l h))))
chain_after_lem j v (Allow by to on right depth) e =
    ap (λ g. images g (loans_of j j.loans)) (allowed_of grant_bytes bytes_laws j v.inv by to on right depth)
chain_after_lem j v (Withdraw by to on right) e =
    let k = (accepted (facts j (arguments_of (Withdraw by to on right))) (arguments_of (Withdraw by to on right)) e).fits in
    unfold chain_withdrawn in
    (chain_dropped_all_lem (of_each_depth to on right) j v (eight-ranged to on right (search (fst, snd, both))))
chain_after_lem j v (Drop by to on right depth) e =
    let k = (accepted (facts j (arguments_of (Drop by to on right depth))) (arguments_of (Drop by to on right depth)) e).fits in
    chain_dropped_lem j v (grant to on right depth) (search (fst, snd, both))
chain_after_lem j v (Lend by to on right depth last) e =
    let a = arguments_of (Lend by to on right depth last) in
    ap₂ images (same-image grant_bytes bytes_laws j (apply j (Lend by to on right depth last)) refl refl)
    (with_of (header_for j) (sorted j.loans) (few_sorted j v.loan-inv) (word_of (loan by on right to depth last))
    ∙ ap (loans_image (header_for j))
    (sym (sorted-add (loan by on right to depth last) j.loans (accepted (facts j a) a e).fits (loans-ranged j v.loan-inv))))
chain_after_lem j v (Recall by to on right depth last) e =
    let a = arguments_of (Recall by to on right depth last) in
    let l = loan by on right to depth last in
    ap₂ images (same-image grant_bytes bytes_laws j (apply j (Recall by to on right depth last)) refl refl)
    (kept_of (header_for j) (sorted j.loans) (few_sorted j v.loan-inv) (λ w. not (eqb (word_of l) w))
    ∙ ap (loans_image (header_for j))
    (keep-sorted (λ m. not (same_loan l m)) (λ w. not (eqb (word_of l) w)) ranged_loan j.loans
    (loans-ranged j v.loan-inv) (λ m h. ap not (word_same l m (accepted (facts j a) a e).fits h))))
chain_after_lem j v (Sweep by) e =
    ap₂ images (same-image grant_bytes bytes_laws j (apply j (Sweep by)) refl refl)
    (kept_of (header_for j) (sorted j.loans) (few_sorted j v.loan-inv) (λ w. not (word_past (shift_in (images_of j).loans) w))
    ∙ ap (loans_image (header_for j))
    (keep-sorted (λ l. not (is_past j.shift l.last)) (λ w. not (word_past (shift_in (images_of j).loans) w)) ranged_loan j.loans
    (loans-ranged j v.loan-inv) (λ l h. ap not (word_past_lem j v l h))))
chain_after_lem j v (Shift by now) e =
    ap₂ images (same-image grant_bytes bytes_laws j (apply j (Shift by now)) refl refl)
    (unfold moved_to in (at_of (header_for j) (sorted j.loans) (few_sorted j v.loan-inv) now))
chain_after_lem j v (AllowSet by set on right depth) e =
    let gs = map (λ i. grant i on right depth) (members_of set) in
    ap₂ images (allowed_set_of grant_bytes bytes_laws j v.inv by set on right depth)
    (sym (ap₂ (λ (n : ℕ) (ls : List Loan). loans_image (record { shift = n; count = 0 }) (sorted ls)) (shift-granted gs j) (loans-granted gs j)))
