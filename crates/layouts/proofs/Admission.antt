-- What numbers 1 to 3 refuse and what they let through, in any unit: the number of a command and that of a check go by the same tests in
-- the same order, so a refusal has its number, and past them the number is the one that the unit gives.
use mathlib.Core.Path.{◌≡◌, refl, sym, ap, ◌∙◌, subst}
use mathlib.Core.Bool.{Bool, true, false, not, ◌&&◌, cond}
use mathlib.Core.List.{List}
use Prim.Native.Nat.{ℕ}
use borrow.Author.Tests.{ne_eqb}
use lib.ListN.{length}
use lib.Dec.{eqb}
use Rattle.bits.proofs.Sets.{by_cases}
use Rattle.std.specs.Prelude.{Some, None, Result, Ok, Err, ⊤}
use Rattle.model.specs.declared.Command.{Command}
use Rattle.model.specs.declared.Typed.{Typed}
use Rattle.model.specs.declared.Question.{Question}
use Rattle.model.specs.declared.Refusal.{Refusal}
use Rattle.model.specs.declared.Refusal.TheVariants as is
use Rattle.model.specs.Commands.{arguments_of, typed_of, raw_of, fits, items, right_depth, asking, Ranged}
use Rattle.model.specs.Answers.{asked, table, refusal_number, number_of, answer_with, Returns, ◌when◌else◌}
use Rattle.model.proofs.Answers.{refuses, refused, refused_is, found_is, numbered, known_number, table-known}
use Rattle.model.proofs.Commands.{ranged_command}
use Rattle.layouts.specs.Machine.{Machine, guarded_by, answer_of, judged_in, Judged, Ran, RanCounting}
use Rattle.layouts.specs.Admission.{admission, command_admission, check_admission}
use Rattle.layouts.specs.Layouts.{Layout, is_in_order, guarded, held, Checks}
use Rattle.layouts.proofs.Guarding.{guard_off, guard_on}

-- what holds past the three, and of a refusal by its number, holds of what is admitted; n: the number after 3
pub admits : {A : Type 0} (order : Result ⊤ Refusal) (within : Bool) (ready : A) (sized ordered : Bool) (n : ℕ)
    → number_of order ≡ guarded_by sized ordered 0 → (P : Result A Refusal → Type 0)
    → (guarded_by sized ordered 0 ≡ 0 → within ≡ true → P (Ok ready))
    → ((r : Refusal) → refusal_number r ≡ guarded_by sized ordered (3 when not within else n) → P (Err r))
    → P (admission order (cond within (Some ready) None))
admits (Ok z) within ready sized ordered n e P f g =
    by_cases within (λ w. rw w (f (sym e) w))
    (λ w. rw w (g is.OutOfRange (sym (guard_on sized ordered _ (sym e) ∙ rw w))))
admits (Err r) within ready sized ordered n e P f g = g r (e ∙ guard_off sized ordered _ (λ k. refuses r (e ∙ k)))

-- ---- a command, in any machine
module _ {S : Type 0} (M : Machine S) (s : S) (c : Command) where
  -- what is to be known of an admission, in a unit that counts
  abbrev Counts : Result Typed Refusal → Type 0
  Counts (Err r) = RanCounting M s c (Err r) s
  Counts (Ok t) =
      (guarded_by (M.sized s) (M.ordered s) 0 ≡ 0) × Ranged (raw_of t)
      × ((r : Result ℕ Refusal) (x : S) → Returns (judged_in M s (raw_of t)) r x → RanCounting M s c r x)

  pub counting_admitted : (order : Result ⊤ Refusal) → number_of order ≡ guarded_by (M.sized s) (M.ordered s) 0
      → (m : Result Typed Refusal) → m ≡ command_admission order c → Counts m
  counting_admitted order e m h =
      subst Counts (sym h)
      (admits order (fits (arguments_of c)) (typed_of (arguments_of c))
      (M.sized s) (M.ordered s) (table (M.facts s (arguments_of c)) (arguments_of c)) e Counts
      (λ g w.
      let n : answer_of M s c ≡ table (M.facts s (arguments_of c)) (arguments_of c) = guard_on (M.sized s) (M.ordered s) _ g ∙ rw w in
      (g, ranged_command (arguments_of c) w, λ r x j. ((j.0.0 ∙ sym n, j.0.1 ∙ sym (rw n)), j.1 ∙ sym (rw n))))
      (λ r n. let q : eqb (refusal_number r) 0 ≡ false = ne_eqb (refusal_number r) 0 (refuses r) in (refused r _ _ n, rw (← n, q))))

  -- and in one that counts nothing
  abbrev Admits : Result Typed Refusal → Type 0
  Admits (Err r) = Ran M s c (Err r) s
  Admits (Ok t) =
      (guarded_by (M.sized s) (M.ordered s) 0 ≡ 0) × Ranged (raw_of t)
      × ((r : Result ⊤ Refusal) (x : S) → Judged M s (raw_of t) (number_of r) x → Ran M s c r x)

  without-count : (m : Result Typed Refusal) → Counts m → Admits m
  without-count (Err r) k = (numbered (Err r) _ k.0.0, k.1)
  without-count (Ok t) k = (
    k.0,
    k.1,
    λ r x j.
        let b = judged_in M s (raw_of t) in
        let n = known_number b.number b.count (table-known (M.facts s (raw_of t)) (raw_of t)) in
        let q = k.2 (answer_with b.number b.count) x ((n, refl), j.1) in
        (numbered r _ (j.0 ∙ sym n ∙ q.0.0), q.1),
  )

  pub command_admitted : (order : Result ⊤ Refusal) → number_of order ≡ guarded_by (M.sized s) (M.ordered s) 0
      → (m : Result Typed Refusal) → m ≡ command_admission order c → Admits m
  command_admitted order e m h = without-count m (counting_admitted order e m h)

-- ---- a check, whatever its buffers
module _ (sized ordered : Bool) (p o r : ℕ) where
  -- what is to be known of an admission
  abbrev Asks : Result Question Refusal → Type 0
  Asks (Err a) = refusal_number a ≡ guarded_by sized ordered (asked p o r)
  Asks (Ok q) =
      (guarded_by sized ordered 0 ≡ 0) × (guarded_by sized ordered (asked p o r) ≡ 0)
      × (items p o && right_depth r 0 ≡ true) × (q ≡ asking p o r)

  pub check_admitted : (order : Result ⊤ Refusal) → number_of order ≡ guarded_by sized ordered 0 → (m : Result Question Refusal)
      → m ≡ check_admission order p o r → Asks m
  check_admitted order e m h =
      subst Asks (sym h)
      (admits order (items p o && right_depth r 0) (asking p o r) sized ordered 0 e Asks
      (λ g w. (g, guard_on sized ordered (asked p o r) g ∙ rw w, w, refl)) (λ a n. n))

-- ---- a check of lists or rows
module _ (L : Layout) (s : List ℕ) (p o r : ℕ) (order : Result ⊤ Refusal) (e : number_of order ≡ guarded L s 0) where
  pub check_refused : (a : Refusal) → Err a ≡ check_admission order p o r → Checks L s p o r (Err a) s
  check_refused a h =
      (refused_is a _ _ (check_admitted (eqb (length s) L.cells) (is_in_order L s) p o r order e (Err a) h), refl)

  module _ (q : Question) (h : Ok q ≡ check_admission order p o r) where
    ready : Asks (eqb (length s) L.cells) (is_in_order L s) p o r (Ok q)
    ready = check_admitted (eqb (length s) L.cells) (is_in_order L s) p o r order e (Ok q) h

    pub check_says : (a : Result Bool Refusal) (b : Bool) → b ≡ held L s q.who.0 q.on.0 q.right.0 → a ≡ Ok b → Checks L s p o r a s
    check_says a b k i = (i ∙ rw ready.1 (found_is 0 b refl ∙ ap (answer_with 0) (k ∙ rw ready.3)), refl)
