-- What the unit above needs to use the loans image: what its test of order gives, and what the contracts' definitions come to there.
use mathlib.Core.Path.{◌≡◌, refl, ap, ◌∙◌}
use mathlib.Core.Bool.{Bool, true, false, ◌&&◌, cond}
use mathlib.Core.List.{List}
use Prim.Native.Nat.{ℕ, suc, ◌%◌, ◌<◌}
use native.Mathlib.Omega.{arith}
use lib.ListN.{length, get_or, drop}
use lib.Dec.{eqb, leb}
use Rattle.bits.specs.Sets.{all}
use Rattle.model.specs.Commands.{Ranged, shifts, most_loans}
use Rattle.model.specs.Journal.{loan, loan_in}
use Rattle.delegation.specs.Loans.{lender, loan_item, borrower, cut, rising, loan_words, count_of, shift_in, used, word_good, loans_in_order}
use Rattle.delegation.proofs.Loans.{order-image}
use Rattle.model.specs.declared.Arguments.{Arguments}
use Rattle.loans.specs.Words.{unmasked, Ordered}

pub ordered : (live : ℕ → Bool) (t : List ℕ) → length t ≡ loan_words → loans_in_order live t ≡ true → Ordered t
ordered live t l h = let o = order-image live t l h in record { long = l; rises = o.1; whole = o.2 }

-- the test of order by a mask of the live items, as the masks of a unit are made
pub masked : (live : ℕ → Bool) (d t : List ℕ) → ((i : ℕ) → i < 64 → get_or d i 0 ≡ cond (live i) 0 255)
    → loans_in_order (unmasked d) t ≡ loans_in_order live t
unfolding loans_in_order
masked live d t m =
    λ j. shifts (shift_in t) && leb (count_of t) most_loans && rising (used t) && all (λ w. good w j) (used t)
    && all (eqb 0) (drop (suc (count_of t)) t)
  where
    one : (i : ℕ) → i < 64 → unmasked d i ≡ live i
    one i l = ap (λ (x : ℕ). eqb x 0) (m i l) ∙ zero (live i)
      where
        zero : (b : Bool) → eqb (cond b 0 255) 0 ≡ b
        zero true = refl
        zero false = refl

    good : (w : ℕ) → word_good (unmasked d) w ≡ word_good live w
    good w = rw (one (lender w) (omega arith), one (loan_item w) (omega arith), one (borrower w) (omega arith))

-- of arguments within their ranges no loan is cut
pub cut-none : (a : Arguments) → Ranged a → cut (loan_in a) ≡ loan_in a
cut-none a r =
    let p : a.by % 64 ≡ a.by = omega (arith, r.by) in
    let o : a.on % 64 ≡ a.on = omega (arith, r.on) in
    let k : a.right % 8 ≡ a.right = omega (arith, r.right) in
    let q : a.to % 64 ≡ a.to = omega (arith, r.to) in
    let d : a.depth % 8 ≡ a.depth = omega (arith, r.depth) in
    let n : a.shift % 256 ≡ a.shift = omega (arith, r.shift) in
    λ j. loan (p j) (o j) (k j) (q j) (d j) (n j)
