-- Numbers 1 and 2, the fresh unit, the facts of a command, and what a check's answer is asked of.
use mathlib.Core.Path.{◌≡◌, refl, ap, ◌∙◌}
use mathlib.Core.Bool.{Bool, true, false, not, ◌&&◌, cond}
use mathlib.Core.List.{List, []}
use Prim.Native.Nat.{ℕ, ◌%◌, ◌≤◌}
use mathlib.Core.Logic.{by_cases}
use native.Mathlib.Decide.{ℕ_discrete}
use native.Mathlib.Omega.{arith}
use borrow.Author.Tests.{eq-eqb, ne_eqb, leb-true}
use lib.ListN.{length, get_or}
use lib.Dec.{eqb, leb, ltb}
use Rattle.model.specs.declared.Facts.{Facts}
use Rattle.model.specs.declared.Command.{Command}
use Rattle.model.specs.declared.Arguments.{Arguments}
use Rattle.model.specs.declared.Typed.{Typed}
use Rattle.std.specs.Prelude.{Result, Ok, Err, ⊤}
use Rattle.model.specs.declared.Question.{Question}
use Rattle.model.specs.declared.Refusal.{Refusal}
use Rattle.model.specs.declared.Refusal.TheVariants as is
use Rattle.bits.specs.Sets.{any, all}
use Rattle.model.specs.Commands.{shifts, most_loans, Ranged, raw_of, members_of}
use Rattle.model.specs.Answers.{number_of}
use Rattle.model.specs.Journal.{carries, loan_in}
use Rattle.layouts.specs.Admission.{command_admission, check_admission}
use Rattle.layouts.specs.Live.{masks_of}
use Rattle.layouts.specs.Layouts.{grant_bytes, grant_cells, live_in, held, is_in_order, fresh_image, fresh_of}
use Rattle.delegation.specs.Loans.{word_of, cut, word_dated, rising, loan_words, count_of, shift_in, used, fresh_header, loans_image, loans_in_order}
use Rattle.delegation.specs.Images.{Images, images}
use Rattle.delegation.specs.ChainUnit.{chain_unit, chain_in_order, chain_sized, chain_guarded, chain_facts, chain_fresh, ChainFreshens, ChainInspects}
use Rattle.bits.proofs.Sets.{fst, snd}
use Rattle.model.proofs.Answers.{numbered}
use Rattle.bits.proofs.Indexed.{get_d_tabulate}
use Rattle.model.proofs.Commands.{asked-ranged}
use Rattle.layouts.proofs.Admission.{command_admitted, check_admitted}
use Rattle.delegation.proofs.ChainEnds.{chain_readable}
use Rattle.loans.specs.Words.{unmasked}
use Rattle.loans.proofs.Standing.{masked, cut-none}
use Rattle.chains.specs.InShape.{InShape}
use Rattle.chains.specs.Ready.{Ready}

-- ---- numbers 1 and 2
-- a length that is wrong
pub wrong_length : (s : Images) (room : Bool) → (length s.grants ≡ grant_cells → length s.loans ≡ loan_words → room ≡ true → ⊥)
    → 1 ≡ chain_guarded s room 0
wrong_length s room none =
    by_cases (ℕ_discrete (length s.grants) grant_cells)
    (λ g. by_cases (ℕ_discrete (length s.loans) loan_words)
    (λ t. rw (eq-eqb (length s.grants) grant_cells g, eq-eqb (length s.loans) loan_words t, false-if room (none g t)))
    (λ t. rw (eq-eqb (length s.grants) grant_cells g, ne_eqb (length s.loans) loan_words t)))
    (λ g. rw (ne_eqb (length s.grants) grant_cells g))
  where
    false-if : (b : Bool) → (b ≡ true → ⊥) → b ≡ false
    false-if true h = absurd (h refl)
    false-if false h = refl

module _ (g t : List ℕ) (l : length g ≡ grant_cells) (k : length t ≡ loan_words) where
  pub order_named : is_in_order grant_bytes g ≡ false → 2 ≡ chain_guarded (images g t) true 0
  order_named o = rw (eq-eqb (length g) grant_cells l, eq-eqb (length t) loan_words k, o)

  module _ (o : is_in_order grant_bytes g ≡ true) (m : List ℕ) (q : m ≡ masks_of g) (b : Bool)
      (h : b ≡ (eqb (length t) loan_words && loans_in_order (unmasked m) t)) where
    -- the masks tell of the live items as the image does
    by-live : b ≡ loans_in_order (live_in grant_bytes g) t
    unfolding masks_of grant_bytes
    by-live =
        h ∙ rw (eq-eqb (length t) loan_words k)
        (masked (live_in grant_bytes g) m t (λ i z. ap (λ (x : List ℕ). get_or x i 0) q ∙ get_d_tabulate 64 _ i 0 z))

    pub order-lent : b ≡ false → 2 ≡ chain_guarded (images g t) true 0
    order-lent z = rw (eq-eqb (length g) grant_cells l, eq-eqb (length t) loan_words k, o, ← by-live, z)

    pub order_done : b ≡ true → 0 ≡ chain_guarded (images g t) true 0
    order_done z = rw (eq-eqb (length g) grant_cells l, eq-eqb (length t) loan_words k, o, ← by-live, z)

pub inspected : (s : Images) (r : Result ⊤ Refusal) → number_of r ≡ chain_guarded s true 0 → ChainInspects s r s
inspected s r e = (numbered r _ e, refl)

-- ---- a fresh unit
module _ (g t : List ℕ) where
  pub fresh-grants : (length g ≡ grant_cells → ⊥) → ChainFreshens (images g t) (Err is.WrongLength) (images g t)
  fresh-grants h = rw (ne_eqb (length g) grant_cells h) (numbered (Err is.WrongLength) 1 refl, refl)

  module _ (l : length g ≡ grant_cells) where
    pub fresh-loans : (length t ≡ loan_words → ⊥) → ChainFreshens (images g t) (Err is.WrongLength) (images g t)
    fresh-loans h = rw (eq-eqb (length g) grant_cells l, ne_eqb (length t) loan_words h) (numbered (Err is.WrongLength) 1 refl, refl)

    fresh-grants_of : fresh_of grant_bytes g ≡ fresh_image grant_bytes
    unfolding grant_bytes
    fresh-grants_of = rw (eq-eqb (length g) grant_cells l)

    pub fresh_both : (x y : List ℕ) → length t ≡ loan_words → x ≡ fresh_of grant_bytes g
        → y ≡ cond (eqb (length t) loan_words) (loans_image fresh_header []) t
        → ChainFreshens (images g t) (Ok tt) (images x y)
    unfolding chain_fresh
    fresh_both x y k p q =
        let n : eqb (length t) loan_words ≡ true = eq-eqb (length t) loan_words k in
        let e : y ≡ loans_image fresh_header [] = q ∙ rw n in
        let f : x ≡ fresh_image grant_bytes = p ∙ fresh-grants_of in
        rw (eq-eqb (length g) grant_cells l, n) (numbered (Ok tt) 0 refl, λ j. images (f j) (e j))

-- ---- the facts
pub loan_word_is : (a : Arguments) (w : ℕ) → Ranged a → w ≡ word_of (cut (loan_in a)) → w ≡ word_of (loan_in a)
loan_word_is a w g e = e ∙ ap word_of (cut-none a g)

pub facts-are : (s : Images) (a : Arguments) (r w : ℕ) (x y z m h b q f : Bool) → r ≡ 0 → w ≡ word_of (loan_in a)
    → x ≡ live_in grant_bytes s.grants a.by → y ≡ live_in grant_bytes s.grants a.on → z ≡ live_in grant_bytes s.grants a.to
    → m ≡ all (live_in grant_bytes s.grants) (members_of a.set) → h ≡ held grant_bytes s.grants a.by a.on r
    → b ≡ (ltb a.shift (shift_in s.loans % 256) && any word_dated (used s.loans))
    → q ≡ not (carries (shift_in s.loans % 256) a.shift) → shift_in s.loans ≤ 255
    → f ≡ (leb most_loans (count_of s.loans) && not (any (eqb w) (used s.loans)))
    → ◌≡◌ {A = Facts} (record { by = x; on = y; to = z; members = m; edits = h; back = b; past = q; full = f }) (chain_facts s a)
facts-are s a r w x y z m h b q f er ew ex ey ez em eh eb eq low ef =
    let n : shift_in s.loans % 256 ≡ shift_in s.loans = omega arith in rw (ex, ey, ez, em, eh, eb, eq, ef, er, ew, n)

-- ---- past numbers 1 to 3
pub ready : (s : Images) (c : Command) (order : Result ⊤ Refusal) → number_of order ≡ chain_guarded s true 0 → (t : Typed)
    → Ok t ≡ command_admission order c
    → Ready s (raw_of t)
ready s c order e t h =
    let m = command_admitted chain_unit s c order e (Ok t) h in
    let p = chain_readable s true m.0 in
    record { ordered = p.3; ranged = m.1 }

-- ---- a check
-- images in order are at a shift within its limit, and hold at most 1,024 loans, which rise
pub counted : (s : Images) → chain_in_order s ≡ true
    → (shift_in s.loans ≤ 255) × (count_of s.loans ≤ most_loans) × (rising (used s.loans) ≡ true)
unfolding loans_in_order
counted s e =
    let k = snd (is_in_order grant_bytes s.grants) (loans_in_order (live_in grant_bytes s.grants) s.loans) e in
    let a : shifts (shift_in s.loans) ≡ true = search (fst, snd) in
    let b : leb (count_of s.loans) most_loans ≡ true = search (fst, snd) in
    let c : rising (used s.loans) ≡ true = search (fst, snd) in
    (leb-true _ _ a, leb-true _ _ b, c)

pub in_shape : (s : Images) (p o r : ℕ) (order : Result ⊤ Refusal) → number_of order ≡ chain_guarded s true 0
    → (q : Question) → Ok q ≡ check_admission order p o r
    → InShape s.loans q.who.0 q.on.0 q.right.0
in_shape s p o r order e q h =
    let m = check_admitted (chain_sized s true) (chain_in_order s) p o r order e (Ok q) h in
    let k = chain_readable s true m.0 in
    let i = asked-ranged p o r m.2 in
    record {
      shift = (counted s k.3).0;
      rises = (counted s k.3).2;
      count = (counted s k.3).1;
      person = rw m.3 (omega arith);
      item = rw m.3 (omega arith);
      rights = rw m.3 (omega arith);
    }
