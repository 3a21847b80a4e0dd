-- The ends of a command and of a check of a chain unit: from what its parts say to its contract.
use mathlib.Core.Path.{◌≡◌, refl, sym, ap, ◌∙◌}
use mathlib.Core.Bool.{Bool, true, false, ◌&&◌, cond, false≢true}
use mathlib.Core.List.{List}
use Prim.Native.Nat.{ℕ, ◌+◌, ◌*◌}
use borrow.Author.Tests.{ne_eqb, eqb-true}
use lib.ListN.{length}
use lib.Dec.{eqb}
use Rattle.std.specs.Prelude.{Option, Result, Ok, Err, ⊤}
use Rattle.model.specs.declared.Question.{Question}
use Rattle.model.specs.declared.BestChain.{BestChain}
use Rattle.model.specs.declared.Refusal.{Refusal}
use Rattle.model.specs.Answers.{refusal_number, number_of, answer_with, refusal_for, Found, nothing, found_in, found_said}
use Rattle.layouts.specs.Admission.{check_admission}
use Rattle.layouts.specs.Layouts.{grant_cells}
use Rattle.delegation.specs.Loans.{loan_words}
use Rattle.delegation.specs.Images.{Images}
use Rattle.delegation.specs.Search.{grants_of, found_of, chain_of, height_of, best_of}
use Rattle.delegation.specs.Picking.{picked}
use Rattle.delegation.specs.ChainUnit.{chain_in_order, chain_sized, chain_guarded, chain_check_number, chain_found, ChainChecks}
use Rattle.bits.proofs.Sets.{fst, snd}
use Rattle.layouts.proofs.Guarding.{guard_passed, check_guard_known}
use Rattle.layouts.proofs.Admission.{check_admitted}
use Rattle.model.proofs.Answers.{refuses, refused_is, found_is, Known, known_number, found_said_lem}

-- images that may be read
pub chain_readable : (s : Images) (room : Bool) → chain_guarded s room 0 ≡ 0
    → (length s.grants ≡ grant_cells) × (length s.loans ≡ loan_words) × (room ≡ true) × (chain_in_order s ≡ true)
chain_readable s room e =
    let p = guard_passed (chain_sized s room) (chain_in_order s) e in
    let a : eqb (length s.grants) grant_cells ≡ true = let k = p.0 in search (fst, snd) in
    let b : eqb (length s.loans) loan_words ≡ true = let k = p.0 in search (fst, snd) in
    (eqb-true _ _ a, eqb-true _ _ b, snd (eqb (length s.grants) grant_cells && eqb (length s.loans) loan_words) room p.0, p.1)

-- ---- a check
module _ (s : Images) (buffer : List ℕ) (p o r : ℕ) (order : Result ⊤ Refusal)
    (e : number_of order ≡ chain_guarded s (eqb (length buffer) 8) 0) where
  -- 1, 2 or 3
  pub chain_check_refused : (a : Refusal) → Err a ≡ check_admission order p o r → ChainChecks s buffer p o r (Err a) buffer s
  chain_check_refused a h =
      let n = check_admitted (chain_sized s (eqb (length buffer) 8)) (chain_in_order s) p o r order e (Err a) h in
      (refused_is a _ _ n, sym (rw (← n, ne_eqb (refusal_number a) 0 (refuses a))), refl)

  -- yes or no
  pub chain_check_says : (q : Question) → Ok q ≡ check_admission order p o r → (a : Option BestChain) (b : List ℕ)
      → a ≡ found_said (found_of s.grants s.loans (8 * q.on.0 + q.right.0) q.who.0)
      → b ≡ chain_of s.grants s.loans (8 * q.on.0 + q.right.0) q.who.0
      → ChainChecks s buffer p o r (Ok a) b s
  chain_check_says q h a b k l =
      let n = check_admitted (chain_sized s (eqb (length buffer) 8)) (chain_in_order s) p o r order e (Ok q) h in (
        ap Ok k ∙ found_is _ _ n.1 ∙ sym (rw (n.1, n.3)),
        l ∙ sym (rw (n.1, n.3)),
        refl,
      )

-- ---- a check's number is some answer's, and what a check found is what its answer tells
chain_check_known : (s : Images) (buffer : List ℕ) (p o r : ℕ) → Known (chain_check_number s buffer p o r)
chain_check_known s buffer p o r = check_guard_known (chain_sized s (eqb (length buffer) 8)) (chain_in_order s) p o r

-- a no has no depth and no persons
best_none : (bytes ls : List ℕ) (who : ℕ) → (best_of bytes ls who).yes ≡ false → best_of bytes ls who ≡ nothing
unfolding best_of
best_none bytes ls who = go (eqb (height_of bytes ls who) 0) (record { yes = true; depth = _; persons = _ }) refl
  where
    go : (b : Bool) (f : Found) → f.yes ≡ true → (cond b nothing f).yes ≡ false → cond b nothing f ≡ nothing
    go true f y e = refl
    go false f y e = absurd (false≢true (sym e ∙ y))

found_none : (gs t : List ℕ) (key who : ℕ) → (found_of gs t key who).yes ≡ false → found_of gs t key who ≡ nothing
unfolding found_of
found_none gs t key who = best_none (grants_of gs key) (picked t key) who

chain_found_lem : (s : Images) (buffer : List ℕ) (p o r : ℕ)
    → found_in (answer_with (chain_check_number s buffer p o r) (found_said (chain_found s buffer p o r))) ≡ chain_found s buffer p o r
unfolding answer_with
chain_found_lem s buffer p o r =
    go (eqb (chain_check_number s buffer p o r) 0) (found_of s.grants s.loans (8 * o + r) p)
    (found_none s.grants s.loans (8 * o + r) p)
  where
    go : (b : Bool) (f : Found) → (f.yes ≡ false → f ≡ nothing)
        → found_in (cond b (Ok (found_said (cond b f nothing))) (Err (refusal_for (chain_check_number s buffer p o r)))) ≡ cond b f nothing
    go true f h = found_said_lem f h
    go false f h = refl

-- what a check's answer tells: its number, and what was found
pub chain-told : (s : Images) (buffer : List ℕ) (p o r : ℕ) (a : Result (Option BestChain) Refusal)
    → a ≡ answer_with (chain_check_number s buffer p o r) (found_said (chain_found s buffer p o r))
    → (number_of a ≡ chain_check_number s buffer p o r) × (found_in a ≡ chain_found s buffer p o r)
chain-told s buffer p o r a e = (
  ap number_of e ∙ known_number _ (found_said (chain_found s buffer p o r)) (chain_check_known s buffer p o r),
  ap found_in e
      ∙ chain_found_lem s buffer p o r,
)
