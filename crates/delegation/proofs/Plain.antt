-- With every `last` 0 and no shift command nothing changed: word 0 of the loans image is the count, and each loan's word is document
-- 01's, since the shift is 0 and no loan has a last one (`plain_undated`).
use mathlib.Core.Path.{◌≡◌, refl, ap}
use mathlib.Core.Bool.{true, false, not}
use mathlib.Core.List.{List, [], ◌∷◌, ◌++◌}
use Prim.Native.Nat.{ℕ, ◌+◌, ◌-◌, ◌*◌}
use native.Mathlib.Omega.{arith}
use borrow.Author.Tests.{eqb-true, eq-eqb, not-false}
use lib.ListN.{length, replicate}
use lib.Dec.{eqb}
use Rattle.bits.specs.Sets.{any, all}
use Rattle.model.specs.declared.Command.{Command}
use Rattle.model.specs.Commands.{most_loans}
use Rattle.model.specs.Journal.{Loan, Journal, is_dated, is_plain, fresh, run}
use Rattle.bits.proofs.Sets.{both}
use Rattle.model.proofs.Invariant.{neither}
use Rattle.model.proofs.Shifts.{Undated, plain_undated}
use Rattle.delegation.specs.Loans.{word_of, header_word, recounted, loans_image}
use Rattle.delegation.proofs.Loans.{open_word, sorted}
use Rattle.delegation.proofs.Steps.{images_of}

-- 'A loan is lender·2^18 + on·2^12 + right·2^9 + borrower·2^3 + depth'
abbrev pub plain_word : Loan → ℕ
plain_word l = l.lender * 262144 + l.item * 4096 + l.right * 512 + l.borrower * 8 + l.depth

plain_words : (ls : List Loan) → any is_dated ls ≡ false → all (λ l. eqb (word_of l) (plain_word l)) ls ≡ true
unfolding any all
plain_words [] h = refl
plain_words (l ∷ ls) h =
    let k = neither (is_dated l) (any is_dated ls) (ap not h) in
    both (eq-eqb (word_of l) (plain_word l) (open_word l (eqb-true l.last 0 (not-false _ k.0)))) (plain_words ls k.1)

plain_loans : (j : Journal) → Undated j
    → ((images_of j).loans ≡ length (sorted j.loans) ∷ (sorted j.loans ++ replicate (most_loans - length (sorted j.loans)) 0))
    × (all (λ l. eqb (word_of l) (plain_word l)) j.loans ≡ true)
unfolding loans_image header_word recounted
plain_loans j u =
    let n : ℕ = length (sorted j.loans) in
    let e : j.shift * 65536 + n ≡ n = omega (arith, u.shift) in
    (ap (λ (x : ℕ). x ∷ (sorted j.loans ++ replicate (most_loans - n) 0)) e, plain_words j.loans u.loans)

-- the loans image after any list of document 01's commands
pub plain_images : (cs : List Command) → all is_plain cs ≡ true
    → let j = run fresh cs in
    ((images_of j).loans ≡ length (sorted j.loans) ∷ (sorted j.loans ++ replicate (most_loans - length (sorted j.loans)) 0))
    × (all (λ l. eqb (word_of l) (plain_word l)) j.loans ≡ true)
plain_images cs h = plain_loans (run fresh cs) (plain_undated cs h)
