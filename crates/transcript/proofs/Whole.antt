-- Document 01's listing, whole: its output is the program's, by `text_agreement` and computation on the journal.
use mathlib.Core.Path.{◌≡◌, refl, sym, ap, ap₂, ◌∙◌, subst}
use mathlib.Core.Bool.{true, not, ◌&&◌, cond, true≢false}
use mathlib.Core.List.{List, [], ◌∷◌, ◌++◌}
use mathlib.Core.Logic.{◌⊎◌, inl, inr, ⊎_elim}
use Prim.Native.Nat.{ℕ, ◌+◌}
use native.Mathlib.Omega.{arith}
use borrow.Author.Tests.{eqb-true, not-true}
use lib.ListN.{length}
use lib.Dec.{eqb}
use Rattle.std.specs.Prelude.{Option, Some}
use Rattle.model.specs.declared.Command.{Command}
use Rattle.model.specs.declared.Command.TheVariants.{Create, Allow, Withdraw, Lend}
use Rattle.bits.specs.Sets.{any, all, keep, add, tabulate}
use Rattle.bits.specs.Bits.{bit, members}
use Rattle.model.specs.Journal.{Loan, Journal, grant, loan, same_grant, same_loan, carries, standing, LoanCarries, fresh, step, run}
use Rattle.model.specs.Chain.{granted, lent, JournalChain}
use Rattle.bits.proofs.Sets.{fst, snd, find}
use Rattle.lines.specs.declared.Request.{Request}
use Rattle.lines.specs.declared.Request.TheVariants.{Run, Ask}
use Rattle.output.specs.declared.reply.Said.TheVariants.{Yes, No}
use Rattle.output.specs.declared.reply.Tail.TheVariants.{Dashes, Chain}
use Rattle.lines.specs.Bytes.{bytes}
use Rattle.lines.specs.Show.{shown}
use Rattle.output.specs.Output.{output_line, said_text, tail_text, persons, more_persons, newline, last_output, reply}
use Rattle.transcript.specs.Program.{output_of}
use Rattle.transcript.specs.Text.{command_line, CheckLine, refused, none, found, Allowed, last, next, TextAgreement}
use Rattle.transcript.proofs.Text.{text_agreement}
use Rattle.transcript.proofs.Listing.{listing_input, listing_asks}

-- ---- the journal before each of the two checks, and that the listing's commands lead there
lent_journal : Journal
lent_journal = record {
  live = 9 ∷ 4 ∷ 3 ∷ 0 ∷ [];
  grants = grant 3 9 1 1 ∷ grant 0 9 0 0 ∷ grant 0 4 0 0 ∷ grant 0 3 0 0 ∷ grant 0 0 0 0 ∷ [];
  loans = loan 3 9 1 4 0 0 ∷ [];
  shift = 0;
}

withdrawn_journal : Journal
withdrawn_journal = record {
  live = 9 ∷ 4 ∷ 3 ∷ 0 ∷ [];
  grants = grant 0 9 0 0 ∷ grant 0 4 0 0 ∷ grant 0 3 0 0 ∷ grant 0 0 0 0 ∷ [];
  loans = [];
  shift = 0;
}

lent-there : run fresh (Create 0 3 ∷ Create 0 4 ∷ Create 0 9 ∷ Allow 0 3 9 1 1 ∷ Lend 3 4 9 1 0 0 ∷ []) ≡ lent_journal
unfolding lent_journal fresh carries any all keep add tabulate members bit
lent-there = refl

withdrawn-there : step lent_journal (Withdraw 0 3 9 1) ≡ withdrawn_journal
unfolding withdrawn_journal lent_journal carries any all keep add tabulate members bit
withdrawn-there = refl

-- the one grant of right 1, and the one loan
one-grant : (p e : ℕ) → standing lent_journal (grant p 9 1 e) ≡ true → (p ≡ 3) × (e ≡ 1)
unfolding lent_journal any all
one-grant p e h =
    let f = find (same_grant (grant p 9 1 e)) (λ g. cond (eqb 1 g.right) (eqb g.person 3 && eqb g.depth 1) true)
    lent_journal.grants refl h in
    let r : eqb 1 f.0.right ≡ true = search (fst, snd) in
    let k : eqb f.0.person 3 && eqb f.0.depth 1 ≡ true = rw r at f.1 in
    let a : p ≡ f.0.person = search (fst, snd, eqb-true) in
    let b : e ≡ f.0.depth = search (fst, snd, eqb-true) in
    let c : f.0.person ≡ 3 = search (fst, eqb-true) in
    let d : f.0.depth ≡ 1 = search (fst, snd, eqb-true) in
    (a ∙ c, b ∙ d)

one-loan : (l : Loan) → LoanCarries lent_journal 9 1 l → (l.lender ≡ 3) × (l.borrower ≡ 4) × (l.depth ≡ 0)
unfolding lent_journal any all
one-loan l s =
    let f = find (same_loan l) (λ m. eqb m.lender 3 && eqb m.borrower 4 && eqb m.depth 0) lent_journal.loans refl s.0 in
    let a : l.lender ≡ f.0.lender = search (fst, snd, eqb-true) in
    let b : l.borrower ≡ f.0.borrower = search (fst, snd, eqb-true) in
    let d : l.depth ≡ f.0.depth = search (fst, snd, eqb-true) in
    let x : f.0.lender ≡ 3 = search (fst, snd, eqb-true) in
    let y : f.0.borrower ≡ 4 = search (fst, snd, eqb-true) in
    let z : f.0.depth ≡ 0 = search (fst, snd, eqb-true) in
    (a ∙ x, b ∙ y, d ∙ z)

-- so these are its chains there
abbrev Only : List ℕ → ℕ → ℕ → Type 0
Only ps p a = ((p ≡ 3) × (ps ≡ 3 ∷ []) × (a ≡ 1)) ⊎ ((p ≡ 4) × (ps ≡ 3 ∷ 4 ∷ []) × (a ≡ 0))

only : {ps : List ℕ} {p a : ℕ} → JournalChain lent_journal 9 1 ps p a → Only ps p a
only (granted {p} {e} h) = let g = one-grant p e h in inl (g.0, ap (λ (q : ℕ). q ∷ []) g.0, g.1)
only (lent {ps} {a} l s c) =
    let k = one-loan l s in
    ⊎_elim
    (λ w. inr (k.1, (let t : ps ++ (l.borrower ∷ []) ≡ (3 ∷ []) ++ (4 ∷ []) = rw (w.1, k.1) in t), omega (arith, w.2)))
    (λ w. absurd (omega (arith, w.0, k.0)))
    (only c)

-- and after the withdrawal it has none
no-chain : {ps : List ℕ} {p a : ℕ} → JournalChain withdrawn_journal 9 1 ps p a → ⊥
unfolding withdrawn_journal any all
no-chain (granted {p} {e} h) =
    let f = find (same_grant (grant p 9 1 e)) (λ g. not (eqb 1 g.right)) withdrawn_journal.grants refl h in
    let r : eqb 1 f.0.right ≡ true = search (fst, snd) in
    true≢false (sym r ∙ not-true _ f.1)
no-chain (lent l s c) = no-chain c

-- ---- the output line by line
record Next (line : List ℕ) (j k : Journal) (n : ℕ) (xs : List (Option Request)) (t : List ℕ) : Type 0 where
  rest : List ℕ
  is : t ≡ line ++ rest
  then : Allowed step j k n xs rest

next_command : {j k : Journal} {n : ℕ} {c : Command} {xs : List (Option Request)} {t : List ℕ} → Allowed step j k n (Some (Run c) ∷ xs) t
    → Next (command_line j k (n + 1) c) (step j c) (step k c) (n + 1) xs t
next_command (next {rest = rest} t e r) = record { rest = rest; is = ap (λ (l : List ℕ). l ++ rest) e; then = r }

-- the same journal, named otherwise
at_journal : {i j : Journal} {n : ℕ} {xs : List (Option Request)} {t : List ℕ} → i ≡ j → Allowed step i i n xs t → Allowed step j j n xs t
at_journal {n = n} {xs} {t} e a = subst (λ (k : Journal). Allowed step k k n xs t) e a

last_line_lem : {j k : Journal} {n : ℕ} {t : List ℕ} → Allowed step j k n [] t → t ≡ last_output n
last_line_lem last = refl

-- the first check finds the one chain, the second none
first_check : (n : ℕ) (t : List ℕ) → CheckLine lent_journal lent_journal n 4 9 1 t
    → t ≡ output_line n (reply No No Yes (Chain 0 2)) (3 ∷ 4 ∷ [])
unfolding lent_journal carries any
first_check n t (refused h) = absurd (h refl)
first_check n t (none e h) = absurd (h (3 ∷ 4 ∷ []) 0 (lent (loan 3 9 1 4 0 0) (refl, refl, refl, refl) (granted {p = 3} {e = 1} refl)))
first_check n t (found e g) =
    ⊎_elim (λ w. absurd (omega (arith, w.0)))
    (λ w. ap₂ (λ (d : ℕ) (ps : List ℕ). output_line n (reply No No Yes (Chain d (length ps))) ps) w.2 w.1) (only g.chain)

second_check : (n : ℕ) (t : List ℕ) → CheckLine withdrawn_journal withdrawn_journal n 4 9 1 t → t ≡ output_line n (reply No No No Dashes) []
unfolding withdrawn_journal any
second_check n t (refused h) = absurd (h refl)
second_check n t (none e h) = refl
second_check n t (found e g) = absurd (no-chain g.chain)

next_check : {j k : Journal} {n p o r : ℕ} {xs : List (Option Request)} {t : List ℕ} (line : List ℕ)
    → ((s : List ℕ) → CheckLine j k (n + 1) p o r s → s ≡ line)
    → Allowed step j k n (Some (Ask p o r) ∷ xs) t → Next line j k (n + 1) xs t
next_check line is (next {rest = rest} t e r) = record { rest = rest; is = ap (λ (l : List ℕ). l ++ rest) (is t e); then = r }

after : (a : List ℕ) {b c : List ℕ} → b ≡ c → a ++ b ≡ a ++ c
after a e = ap (λ (l : List ℕ). a ++ l) e

-- 'Output, whole'
pub listing_output :
    output_of listing_input
    ≡ bytes "line=1 list=0 row=0 chain=0\nline=2 list=0 row=0 chain=0\nline=3 list=0 row=0 chain=0\nline=4 list=0 row=0 chain=0\n"
    ++ bytes "line=5 list=- row=- chain=0\nline=6 list=no row=no chain=yes depth=0 via=3,4\nline=7 list=0 row=0 chain=0\n"
    ++ bytes "line=8 list=no row=no chain=no depth=- via=-\nlines=8\n"
unfolding lent_journal fresh carries any all keep add tabulate members bit
    output_line said_text tail_text persons more_persons newline last_output shown
listing_output =
    let h = (subst (λ xs. TextAgreement xs (output_of listing_input)) listing_asks (text_agreement listing_input)).dropless refl in
    let n1 = next_command h in
    let n2 = next_command n1.then in
    let n3 = next_command n2.then in
    let n4 = next_command n3.then in
    let n5 = next_command n4.then in
    let n6 = next_check (output_line 6 (reply No No Yes (Chain 0 2)) (3 ∷ 4 ∷ [])) (first_check 6) (at_journal lent-there n5.then) in
    let n7 = next_command n6.then in
    let n8 = next_check (output_line 8 (reply No No No Dashes) []) (second_check 8) (at_journal withdrawn-there n7.then) in
    n1.is ∙ after (bytes "line=1 list=0 row=0 chain=0\n") (
    n2.is ∙ after (bytes "line=2 list=0 row=0 chain=0\n") (
    n3.is ∙ after (bytes "line=3 list=0 row=0 chain=0\n") (
    n4.is ∙ after (bytes "line=4 list=0 row=0 chain=0\n") (
    n5.is ∙ after (bytes "line=5 list=- row=- chain=0\n") (
    n6.is ∙ after (bytes "line=6 list=no row=no chain=yes depth=0 via=3,4\n") (
    n7.is ∙ after (bytes "line=7 list=0 row=0 chain=0\n") (
    n8.is ∙ after (bytes "line=8 list=no row=no chain=no depth=- via=-\n") (last_line_lem n8.then))))))))
