-- What numbers 1 to 3 refuse and let through, of a ticket command: by and the other item that it names, and its right, pass through the
-- admission of a check, for it asks the same of them. A refusal has its number; past them what the table says is the command's answer.
use mathlib.Core.Path.{◌≡◌, refl, sym, ap, ◌∙◌, subst}
use mathlib.Core.Bool.{Bool, true, false, ◌&&◌, cond}
use mathlib.Core.List.{List}
use Prim.Native.Nat.{ℕ, ◌<◌}
use native.Mathlib.Omega.{arith}
use borrow.Author.Tests.{ne_eqb, leb-true}
use lib.ListN.{length}
use lib.Dec.{eqb, leb}
use Rattle.bits.proofs.Sets.{fst, snd}
use Rattle.std.specs.Prelude.{Result, Ok, Err, ⊤}
use Rattle.model.specs.declared.Question.{Question}
use Rattle.model.specs.declared.Refusal.{Refusal}
use Rattle.model.specs.Commands.{items, right_depth, asking}
use Rattle.model.specs.Answers.{refusal_number, number_of, answer_with}
use Rattle.model.proofs.Answers.{refuses, refused, refused_is, found_is, numbered}
use Rattle.model.proofs.Commands.{asked-ranged}
use Rattle.layouts.specs.Admission.{check_admission}
use Rattle.layouts.proofs.Guarding.{guard_passed, guard_on}
use Rattle.layouts.proofs.Admission.{admits, check_admitted}
use Rattle.ticketing.specs.declared.TicketCommand.{TicketCommand}
use Rattle.ticketing.specs.declared.TicketCommand.TheVariants.{Generate}
use Rattle.ticketing.specs.Machine.{fits, table, apply, holds}
use Rattle.ticketing.specs.Order.{is_in_order}
use Rattle.ticketing.specs.Image.{ticket_words, machine_of, image_of}
use Rattle.ticketing.specs.Unit.{guarded, answer_of, step_of, Judged, Ran, Generates, Checks}
use Rattle.tickets.specs.Places.{Ready, JudgedGenerate}

-- the answers of settled commands: another number than 0 leaves the image, and 0 applies the command
pub stops : (s : List ℕ) (c : TicketCommand) (n : ℕ) → table (machine_of s) c ≡ n → (n ≡ 0 → ⊥) → Judged s c n s
stops s c n e z = (sym e, sym (rw (e, ne_eqb n 0 z)))

pub goes : (s x : List ℕ) (c : TicketCommand) → table (machine_of s) c ≡ 0 → x ≡ image_of (apply (machine_of s) c) → Judged s c 0 x
goes s x c e h = (sym e, h ∙ sym (rw e))

-- number 1: a buffer of another length
pub order-length : (s : List ℕ) → (length s ≡ ticket_words → ⊥) → 1 ≡ guarded s 0
order-length s h = rw (ne_eqb (length s) ticket_words h)

-- past numbers 1 to 3
module _ (s : List ℕ) (by on right : ℕ) where
  ready : guarded s 0 ≡ 0 → items by on && right_depth right 0 ≡ true → Ready s by on right
  ready g w =
      let v = guard_passed (eqb (length s) ticket_words) (is_in_order (machine_of s)) g in
      let a : leb by 63 ≡ true = search (fst, snd) in
      let b : leb on 63 ≡ true = search (fst, snd) in
      let c : leb right 7 ≡ true = search (fst, snd) in
      let x = leb-true by 63 a in
      let y = leb-true on 63 b in
      let z = leb-true right 7 c in
      record { order = v.1; by-item = omega arith; on-item = omega arith; right_in = omega arith }

-- ---- a command
module _ (s : List ℕ) (c : TicketCommand) (by on right : ℕ) (same : fits c ≡ items by on && right_depth right 0) where
  -- what is to be known of an admission
  abbrev Admits : Result Question Refusal → Type 0
  Admits (Err a) = (refusal_number a ≡ answer_of s c) × (s ≡ step_of s c)
  Admits (Ok q) =
      Ready s q.who.0 q.on.0 q.right.0 × (q ≡ asking by on right) × (answer_of s c ≡ table (machine_of s) c) × (fits c ≡ true)

  pub admitted : (order : Result ⊤ Refusal) → number_of order ≡ guarded s 0 → (m : Result Question Refusal)
      → m ≡ check_admission order by on right → Admits m
  admitted order e m h =
      subst Admits (sym h)
      (admits order (items by on && right_depth right 0) (asking by on right)
      (eqb (length s) ticket_words) (is_in_order (machine_of s)) (table (machine_of s) c) e Admits
      (λ g w. (ready s by on right g w, refl, guard_on (eqb (length s) ticket_words) (is_in_order (machine_of s)) _ g ∙ rw (same, w), same ∙ w))
      (λ a n.
      let k : refusal_number a ≡ answer_of s c = n ∙ rw (← same) in
      (k, rw (← k, ne_eqb (refusal_number a) 0 (refuses a)))))

  -- a refusal by them is the command's
  pub refused_ran : (order : Result ⊤ Refusal) → number_of order ≡ guarded s 0 → (a : Refusal)
      → Err a ≡ check_admission order by on right → Ran s c (Err a) s
  refused_ran order e a h = let k = admitted order e (Err a) h in (refused a _ _ k.0, k.1)

  -- and that of generate
  pub refused_generate : (order : Result ⊤ Refusal) → number_of order ≡ guarded s 0 → (a : Refusal)
      → Err a ≡ check_admission order by on right → Generates s c (Err a) s
  refused_generate order e a h = let k = admitted order e (Err a) h in (refused a _ _ k.0, k.1)

-- past the three the image is left as the table says, and the command's answer is the table's
left : (s x : List ℕ) (c : TicketCommand) (n : ℕ) → answer_of s c ≡ table (machine_of s) c → fits c ≡ true → Judged s c n x → x ≡ step_of s c
left s x c n e w j = j.1 ∙ sym (rw (e, w) (twice (eqb (table (machine_of s) c) 0)))
  where
    twice : (b : Bool) → cond b (image_of (cond b (apply (machine_of s) c) (machine_of s))) s ≡ cond b (image_of (apply (machine_of s) c)) s
    twice true = refl
    twice false = refl

pub ran : (s : List ℕ) (c : TicketCommand) → answer_of s c ≡ table (machine_of s) c → fits c ≡ true
    → (a : Result ⊤ Refusal) (x : List ℕ) → Judged s c (number_of a) x → Ran s c a x
ran s c e w a x j = (numbered a _ (j.0 ∙ sym e), left s x c (number_of a) e w j)

-- a refused generate: no number is given back
pub gives-none : (s : List ℕ) (by on right n : ℕ) (a : Refusal) → refusal_number a ≡ n
    → table (machine_of s) (Generate by on right) ≡ n → JudgedGenerate s by on right (Err a) s
gives-none s by on right n a e t =
    let v = stops s (Generate by on right) n t (λ z. refuses a (e ∙ z)) in
    ((e ∙ v.0, v.1), refused_is a _ _ (e ∙ sym t))

-- ---- generate, with the number that it gives back
pub generated : (s : List ℕ) (by on right : ℕ) → answer_of s (Generate by on right) ≡ table (machine_of s) (Generate by on right)
    → fits (Generate by on right) ≡ true
    → (r : Result ℕ Refusal) (x : List ℕ) → JudgedGenerate s by on right r x → Generates s (Generate by on right) r x
generated s by on right e w r x j =
    ((j.0.0 ∙ sym e, j.1 ∙ sym (rw e)), left s x (Generate by on right) (number_of r) e w j.0)

-- ---- a check
module _ (s : List ℕ) (p o r : ℕ) (order : Result ⊤ Refusal) (e : number_of order ≡ guarded s 0) where
  pub check_refused : (a : Refusal) → Err a ≡ check_admission order p o r → Checks s p o r (Err a) s
  check_refused a h =
      (refused_is a _ _ (check_admitted (eqb (length s) ticket_words) (is_in_order (machine_of s)) p o r order e (Err a) h), refl)

  module _ (q : Question) (h : Ok q ≡ check_admission order p o r) where
    pub check_reads : (q.who.0 < 64) × (q.on.0 < 64) × (q.right.0 < 8)
    check_reads =
        let asks = check_admitted (eqb (length s) ticket_words) (is_in_order (machine_of s)) p o r order e (Ok q) h in
        let b = asked-ranged p o r asks.2 in
        (rw asks.3 b.0, rw asks.3 b.1, rw asks.3 b.2)

    pub check_says : (b : Bool) → b ≡ holds (machine_of s) q.who.0 q.on.0 q.right.0 → Checks s p o r (Ok b) s
    check_says b k =
        let asks = check_admitted (eqb (length s) ticket_words) (is_in_order (machine_of s)) p o r order e (Ok q) h in
        (rw asks.1 (found_is 0 b refl ∙ ap (answer_with 0) (k ∙ rw asks.3)), refl)
