-- The ends of a command, in any layout.
use mathlib.Core.Path.{◌≡◌, refl, sym, ap, ◌∙◌}
use mathlib.Core.Bool.{Bool, true, false, ◌&&◌}
use mathlib.Core.List.{List}
use Prim.Native.Nat.{ℕ}
use borrow.Author.Tests.{eq-eqb, ne_eqb, eqb-true}
use lib.ListN.{length}
use lib.Dec.{eqb}
use Rattle.model.specs.declared.Command.{Command}
use Rattle.model.specs.declared.Arguments.{Arguments}
use Rattle.model.specs.declared.Facts.{Facts}
use Rattle.std.specs.Prelude.{Result, Ok, Err, ⊤}
use Rattle.model.specs.declared.Refusal.{Refusal}
use Rattle.model.specs.declared.Refusal.TheVariants as is
use Rattle.model.specs.Commands.{arguments_of}
use Rattle.layouts.specs.Machine.{Machine, answer_of, judged_in, Judged}
use Rattle.model.specs.Answers.{table, refusal_number, number_of, answer_with, answer_for, Returns, checked_yes}
use Rattle.layouts.specs.Layouts.{Layout, is_in_order, guarded, facts_of, flat_unit, held, check_number, check_yes, Checks, Inspects, Freshens, fresh_image}
use Rattle.layouts.specs.Subjects.{subjects_of, Tells}
use Rattle.model.proofs.Answers.{numbered, refuses, refused, found, found_is, Known, known_number, table-known, answer-known, checked_yes_lem}
use Rattle.layouts.proofs.Guarding.{guard_passed, guard_known, check_guard_known}

-- ---- a command, in any machine
module _ {S : Type 0} (M : Machine S) (s : S) where
  module _ (a : Arguments) (f : Facts) (e : f ≡ M.facts s a) where
    pub judged_number : (r : Result ⊤ Refusal) → r ≡ answer_for (table f a) → number_of r ≡ table (M.facts s a) a
    judged_number r p = ap number_of p ∙ known_number (table f a) tt (table-known f a) ∙ ap (λ g. table g a) e

    -- where the table refuses: the state stays, and nothing is counted
    pub counting_stops : (r : Refusal) → Err r ≡ answer_for (table f a) → Returns (judged_in M s a) (Err r) s
    counting_stops r p =
        let t : refusal_number r ≡ table (M.facts s a) a = judged_number (Err r) p in
        let n : eqb (refusal_number r) 0 ≡ false = ne_eqb (refusal_number r) 0 (refuses r) in
        (refused r _ _ t, rw (← t, n))

    -- where it does not: the command is done
    pub counting_goes : (z : ⊤) (k : ℕ) (x : S) → Ok z ≡ answer_for (table f a) → x ≡ M.after s a → k ≡ M.counts s a
        → Returns (judged_in M s a) (Ok k) x
    counting_goes z k x p u v =
        let t : 0 ≡ table (M.facts s a) a = judged_number (Ok z) p in
        ((t, found_is _ _ (sym t) ∙ ap (answer_with _) (v ∙ sym (rw (← t)))), u ∙ sym (rw (← t)))

    -- the same of a unit that counts nothing
    pub judged_stops : (r : Refusal) → Err r ≡ answer_for (table f a) → Judged M s a (refusal_number r) s
    judged_stops r p = let k = counting_stops r p in (k.0.0, k.1)

    pub judged_goes : (z : ⊤) (x : S) → Ok z ≡ answer_for (table f a) → x ≡ M.after s a → Judged M s a 0 x
    judged_goes z x p u = let k = counting_goes z (M.counts s a) x p u refl in (k.0.0, k.1)

-- ---- any layout
module _ (L : Layout) (s : List ℕ) where
  -- an image that may be read
  pub readable : guarded L s 0 ≡ 0 → length s ≡ L.cells
  readable e = eqb-true (length s) L.cells (guard_passed (eqb (length s) L.cells) (is_in_order L s) e).0

  -- a buffer of m cells, where the layout has n
  pub order-length : (m n : ℕ) → length s ≡ m → L.cells ≡ n → (m ≡ n → ⊥) → 1 ≡ guarded L s 0
  order-length m n l k h = rw (ne_eqb (length s) L.cells (λ e. h (sym l ∙ e ∙ k)))

  pub order_done : length s ≡ L.cells → is_in_order L s ≡ true → 0 ≡ guarded L s 0
  order_done l e = rw (eq-eqb (length s) L.cells l, e)

  -- numbers 1 and 2 alone
  pub inspected : (r : Result ⊤ Refusal) → number_of r ≡ guarded L s 0 → Inspects L s r s
  inspected r e = (numbered r _ e, refl)

  -- a fresh unit: number 1, or the fresh image
  pub fresh-length : (length s ≡ L.cells → ⊥) → Freshens L s (Err is.WrongLength) s
  fresh-length h = rw (ne_eqb (length s) L.cells h) (numbered (Err is.WrongLength) 1 refl, refl)

  pub fresh_done : (x : List ℕ) → length s ≡ L.cells → x ≡ fresh_image L → Freshens L s (Ok tt) x
  fresh_done x l e = rw (eq-eqb (length s) L.cells l) (numbered (Ok tt) 0 refl, e)

  -- the subjects: number 1 or 2, or the persons p
  pub subjects_stop : (r : Refusal) → refusal_number r ≡ guarded L s 0 → Tells L s (Err r) s
  subjects_stop r e = (refused r _ _ e, refl)

  pub subjects_are : (p : ℕ) → 0 ≡ guarded L s 0 → p ≡ subjects_of L s → Tells L s (Ok p) s
  subjects_are p e q = (rw q (found _ _ (sym e)), refl)

-- ---- every number that a unit gives is some answer's
pub flat-known : (L : Layout) (s : List ℕ) (c : Command) → Known (answer_of (flat_unit L) s c)
flat-known L s c = guard_known (eqb (length s) L.cells) (is_in_order L s) _ (answer-known (facts_of L s (arguments_of c)) (arguments_of c))

pub check_known : (L : Layout) (s : List ℕ) (p o r : ℕ) → Known (check_number L s p o r)
check_known L s p o r = check_guard_known (eqb (length s) L.cells) (is_in_order L s) p o r

-- what a check's answer tells: its number, and yes or no
pub told : (L : Layout) (s : List ℕ) (p o r : ℕ) (a : Result Bool Refusal) (x : List ℕ) → Checks L s p o r a x
    → (number_of a ≡ check_number L s p o r) × (checked_yes a ≡ check_yes L s p o r) × (x ≡ s)
told L s p o r a x h =
    let n = check_number L s p o r in (
      ap number_of h.0 ∙ known_number n (check_yes L s p o r) (check_known L s p o r),
      ap checked_yes h.0 ∙ checked_yes_lem n (check_yes L s p o r) ∙ again (eqb n 0) (held L s p o r),
      h.1,
    )
  where
    again : (a b : Bool) → a && (a && b) ≡ a && b
    again true b = refl
    again false b = refl
