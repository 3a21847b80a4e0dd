-- What the shift promises. Row 12 refuses a lower shift while a loan with a last shift stands, so the shift never falls meanwhile, and
-- a loan once past its last shift stays past for as long as it stands. Without a last shift and a shift command nothing is ever past.
use mathlib.Core.Path.{◌≡◌, refl, sym, ap, ◌∙◌}
use mathlib.Core.Bool.{Bool, true, false, not, ◌&&◌, cond, false≢true}
use mathlib.Core.List.{List, [], ◌∷◌, map}
use Prim.Native.Nat.{ℕ, suc, ◌≤◌, ◌<◌}
use native.Mathlib.Omega.{arith}
use native.Mathlib.Nat.{le_refl}
use borrow.Author.Tests.{eqb-true, eqb-false, eq-eqb, ne_eqb, leb-false, le-leb, lt-leb, ltb-true, ltb-false, lt-ltb}
use lib.Dec.{eqb, leb, ltb}
use Rattle.bits.specs.Sets.{any, all}
use Rattle.model.specs.declared.Command.{Command}
use Rattle.model.specs.declared.Command.TheVariants.{Create, Delete, Allow, Withdraw, Lend, Recall, Shift, AllowSet, Drop, Sweep}
use Rattle.model.specs.Commands.{arguments_of, members_of}
use Rattle.model.specs.Journal.{Loan, Journal, grant, of_each_depth, loan, same_loan, loan_names, carries, is_past, is_dated, standing_loan, facts, answered, fresh, apply, step, run, Throughout, is_plain}
use Rattle.bits.proofs.Sets.{by_cases, fst, snd, both, or_right, any_same, any-add, any_less}
use Rattle.model.proofs.AllowSet.{loans-granted, shift-granted}
use Rattle.model.proofs.Drop.{none_dropped}
use Rattle.model.proofs.Invariant.{accepted, neither, same_loan_lem}

-- ---- which loans carry
-- an open-ended loan carries at every shift
pub open_carries : (now : ℕ) → carries now 0 ≡ true
unfolding carries
open_carries now = refl

-- a loan carries in its last shift
pub last-carries : (n : ℕ) → carries n n ≡ true
unfolding carries
last-carries n = or_right (eqb n 0) (leb n n) (le-leb n n (le_refl n))

-- and no longer in the next
pub next_past : (n : ℕ) → 0 < n → carries (suc n) n ≡ false
unfolding carries
next_past n h = rw (ne_eqb n 0 (λ (z : n ≡ 0). omega arith), lt-leb (suc n) n (omega arith))

-- a last shift that is set and below the present one is past
carries-past : (now last : ℕ) → (last ≡ 0 → ⊥) → last < now → carries now last ≡ false
unfolding carries
carries-past now last z l = rw (ne_eqb last 0 z, lt-leb now last l)

-- past its last shift: that is set, and below the present one
pub past-last : (now last : ℕ) → carries now last ≡ false → (last ≡ 0 → ⊥) × (last < now)
unfolding carries
past-last now last h = let k = neither (eqb last 0) (leb now last) (ap not h) in (eqb-false last 0 k.0, leb-false now last k.1)

-- and only then
pub past_is : (now last : ℕ) → is_past now last ≡ not (eqb last 0) && ltb last now
past_is now last =
    by_cases (carries now last)
    (λ t. rw t (sym (by_cases (not (eqb last 0) && ltb last now)
    (λ h. let n : not (eqb last 0) ≡ true = fst (not (eqb last 0)) (ltb last now) h in
    let z : (last ≡ 0 → ⊥) = λ e. false≢true (sym (ap not (eq-eqb last 0 e)) ∙ n) in
    let l : last < now = ltb-true last now (snd (not (eqb last 0)) (ltb last now) h) in
    absurd (false≢true (sym (carries-past now last z l) ∙ t))) (λ h. h))))
    (λ f. let k = past-last now last f in rw f (sym (both (ap not (ne_eqb last 0 k.0)) (lt-ltb last now k.1))))

-- what is past is past at every later shift
pub later-past : (now later last : ℕ) → now ≤ later → carries now last ≡ false → carries later last ≡ false
later-past now later last l h = let k = past-last now last h in carries-past later last k.0 (omega (arith, k.1))

-- so what carries at a later shift carries now
pub earlier_carries : (now later last : ℕ) → now ≤ later → carries later last ≡ true → carries now last ≡ true
earlier_carries now later last l h =
    by_cases (carries now last) (λ t. t) (λ f. absurd (false≢true (sym (later-past now later last l f) ∙ h)))

-- ---- the shift never falls while a loan with a last shift stands
shift-apply : (j : Journal) (c : Command) → any is_dated j.loans ≡ true → answered j c ≡ 0 → j.shift ≤ (apply j c).shift
shift-apply j (Create by on) d e = le_refl j.shift
shift-apply j (Delete by on) d e = le_refl j.shift
shift-apply j (Allow by to on right depth) d e = le_refl j.shift
shift-apply j (Withdraw by to on right) d e = le_refl j.shift
shift-apply j (Drop by to on right depth) d e = le_refl j.shift
shift-apply j (Lend by to on right depth last) d e = le_refl j.shift
shift-apply j (Recall by to on right depth last) d e = le_refl j.shift
shift-apply j (Sweep by) d e = le_refl j.shift
shift-apply j (Shift by now) d e =
    let k = accepted (facts j (arguments_of (Shift by now))) (arguments_of (Shift by now)) e in
    ltb-false now j.shift (unless (ltb now j.shift) (any is_dated j.loans) d k.back)
  where
    unless : (a b : Bool) → b ≡ true → a && b ≡ false → a ≡ false
    unless false b d e = refl
    unless true b d e = absurd (false≢true (sym e ∙ d))
shift-apply j (AllowSet by set on right depth) d e =
    let q = shift-granted (map (λ i. grant i on right depth) (members_of set)) j in rw q (le_refl j.shift)

pub shift-step : (j : Journal) (c : Command) → any is_dated j.loans ≡ true → j.shift ≤ (step j c).shift
shift-step j c d = go (eqb (answered j c) 0) refl
  where
    go : (b : Bool) → eqb (answered j c) 0 ≡ b → j.shift ≤ (cond b (apply j c) j).shift
    go true e = shift-apply j c d (eqb-true _ _ e)
    go false e = le_refl j.shift

pub shift-rises : (cs : List Command) (j : Journal) → Throughout (λ i. any is_dated i.loans) j cs → j.shift ≤ (run j cs).shift
shift-rises [] j t = le_refl j.shift
shift-rises (c ∷ cs) j t = omega (arith, shift-step j c t.0, shift-rises cs (step j c) t.1)

-- ---- a standing loan that is past stays past for as long as it stands, whatever commands come
pub past_stays : (l : Loan) (cs : List Command) (j : Journal) → Throughout (λ i. standing_loan i l) j cs
    → carries j.shift l.last ≡ false → carries (run j cs).shift l.last ≡ false
past_stays l [] j t h = h
past_stays l (c ∷ cs) j t h =
    let d : is_dated l ≡ true = ap not (ne_eqb l.last 0 (past-last j.shift l.last h).0) in
    past_stays l cs (step j c) t.1
    (later-past j.shift (step j c).shift l.last (shift-step j c (any_same is_dated same_loan same_loan_lem l j.loans t.0 d)) h)

-- ---- with every `last` 0 and no shift command nothing is past, and the shift is 0
pub record Undated (j : Journal) : Type 0 where
  pub shift : j.shift ≡ 0
  pub loans : any is_dated j.loans ≡ false

plain_apply : (j : Journal) (c : Command) → is_plain c ≡ true → Undated j → Undated (apply j c)
plain_apply j (Create by on) h u = record { shift = u.shift; loans = u.loans }
plain_apply j (Delete by on) h u =
    record { shift = u.shift; loans = any_less is_dated (λ l. not (loan_names on l)) j.loans u.loans }
plain_apply j (Allow by to on right depth) h u = record { shift = u.shift; loans = u.loans }
plain_apply j (Withdraw by to on right) h u =
    record { shift = u.shift; loans = none_dropped is_dated (of_each_depth to on right) j u.loans }
plain_apply j (Drop by to on right depth) h u =
    record { shift = u.shift; loans = none_dropped is_dated (grant to on right depth ∷ []) j u.loans }
plain_apply j (Lend by to on right depth last) h u =
    record {
      shift = u.shift;
      loans = any-add is_dated same_loan same_loan_lem (loan by on right to depth last) j.loans ∙ rw (h, u.loans);
    }
plain_apply j (Recall by to on right depth last) h u =
    record { shift = u.shift; loans = any_less is_dated (λ l. not (same_loan (loan by on right to depth last) l)) j.loans u.loans }
plain_apply j (Shift by now) h u = absurd (false≢true h)
plain_apply j (Sweep by) h u =
    record { shift = u.shift; loans = any_less is_dated (λ l. not (is_past j.shift l.last)) j.loans u.loans }
plain_apply j (AllowSet by set on right depth) h u =
    let gs = map (λ i. grant i on right depth) (members_of set) in
    record { shift = shift-granted gs j ∙ u.shift; loans = ap (any is_dated) (loans-granted gs j) ∙ u.loans }

plain_step : (j : Journal) (c : Command) → is_plain c ≡ true → Undated j → Undated (step j c)
plain_step j c h u = by_cases (eqb (answered j c) 0) (λ e. rw e (plain_apply j c h u)) (λ e. rw e u)

plain_run : (cs : List Command) (j : Journal) → all is_plain cs ≡ true → Undated j → Undated (run j cs)
unfolding all
plain_run [] j h u = u
plain_run (c ∷ cs) j h u =
    plain_run cs (step j c) (snd (is_plain c) (all is_plain cs) h) (plain_step j c (fst (is_plain c) (all is_plain cs) h) u)

pub plain_undated : (cs : List Command) → all is_plain cs ≡ true → Undated (run fresh cs)
unfolding fresh any
plain_undated cs h = plain_run cs fresh h (record { shift = refl; loans = refl })
