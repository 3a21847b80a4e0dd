-- An answer and its number tell each other, since no two answers have one number; so a contract that names the answer says as much as
-- one that names the number, and the case besides.
use mathlib.Core.Path.{◌≡◌, refl, sym, ap, ◌∙◌}
use mathlib.Core.Bool.{Bool, true, false, not, ◌&&◌, cond, false≢true}
use Prim.Native.Nat.{ℕ, zero, suc, ◌≤◌}
use native.Mathlib.Omega.{arith}
use borrow.Author.Tests.{eqb-true, ne_eqb}
use lib.Dec.{eqb}
use Rattle.std.specs.Result.{result_unwrap_or}
use Rattle.model.specs.declared.Facts.{Facts}
use Rattle.model.specs.declared.Verb.{Verb}
use Rattle.model.specs.declared.Arguments.{Arguments}
use Rattle.std.specs.Prelude.{Some, None, Result, Ok, Err, IsErr, IsErrAnd, ⊤}
use Rattle.model.specs.declared.Refusal.{Refusal}
use Rattle.model.specs.declared.Refusal.TheVariants as is
use Rattle.model.specs.Answers.{answer, refusal_number, refusal_for, number_of, answer_with, Numbered, effect_of, checked_yes, Found, nothing, found_in, found_said, table, asked, knows}
use Rattle.model.specs.Commands.{fits, items, right_depth, is_empty}

pub refusal_for_lem : (r : Refusal) → refusal_for (refusal_number r) ≡ r
unfolding refusal_for
refusal_for_lem is.WrongLength = refl
refusal_for_lem is.NotInOrder = refl
refusal_for_lem is.OutOfRange = refl
refusal_for_lem is.ByDead = refl
refusal_for_lem is.NamedDead = refl
refusal_for_lem is.AlreadyLive = refl
refusal_for_lem is.RootItem = refl
refusal_for_lem is.NoEdit = refl
refusal_for_lem is.EditRight = refl
refusal_for_lem is.Full = refl
refusal_for_lem is.Malformed = refl
refusal_for_lem is.ShiftBack = refl
refusal_for_lem is.LastPast = refl
refusal_for_lem is.EmptySet = refl
refusal_for_lem is.TicketsFull = refl
refusal_for_lem is.NumbersSpent = refl
refusal_for_lem is.NoTicket = refl

-- no refusal has number 0
pub refuses : (r : Refusal) → refusal_number r ≡ 0 → ⊥
refuses is.WrongLength e = omega (arith, e)
refuses is.NotInOrder e = omega (arith, e)
refuses is.OutOfRange e = omega (arith, e)
refuses is.ByDead e = omega (arith, e)
refuses is.NamedDead e = omega (arith, e)
refuses is.AlreadyLive e = omega (arith, e)
refuses is.RootItem e = omega (arith, e)
refuses is.NoEdit e = omega (arith, e)
refuses is.EditRight e = omega (arith, e)
refuses is.Full e = omega (arith, e)
refuses is.Malformed e = omega (arith, e)
refuses is.ShiftBack e = omega (arith, e)
refuses is.LastPast e = omega (arith, e)
refuses is.EmptySet e = omega (arith, e)
refuses is.TicketsFull e = omega (arith, e)
refuses is.NumbersSpent e = omega (arith, e)
refuses is.NoTicket e = omega (arith, e)

-- a refusal is told by its number
pub refused_is : {A : Type 0} (r : Refusal) (n : ℕ) (a : A) → refusal_number r ≡ n → Err r ≡ answer_with n a
unfolding answer_with
refused_is r n a e =
    ap Err (sym (refusal_for_lem r) ∙ ap refusal_for e) ∙ sym (rw (ne_eqb n 0 (λ z. refuses r (e ∙ z))))

pub refused : {A : Type 0} (r : Refusal) (n : ℕ) (a : A) → refusal_number r ≡ n → Numbered (Err r) n a
refused r n a e = (e, refused_is r n a e)

-- so is what a call finds
pub found_is : {A : Type 0} (n : ℕ) (a : A) → n ≡ 0 → Ok a ≡ answer_with n a
unfolding answer_with
found_is n a e = sym (rw e)

pub found : {A : Type 0} (n : ℕ) (a : A) → n ≡ 0 → Numbered (Ok a) n a
found n a e = (sym e, found_is n a e)

-- an answer that finds nothing is told by its number
pub answer_is : (a : Result ⊤ Refusal) (n : ℕ) → number_of a ≡ n → a ≡ answer_with n tt
answer_is (Ok tt) n e = found_is n tt (sym e)
answer_is (Err r) n e = refused_is r n tt e

pub numbered : (a : Result ⊤ Refusal) (n : ℕ) → number_of a ≡ n → Numbered a n tt
numbered a n e = (e, answer_is a n e)

-- ---- rows of the table
-- what a row of the table gives: its refusal where it applies
abbrev row-of : Bool → Refusal → Result ⊤ Refusal
row-of b r = cond b (Err r) (Ok tt)

-- a row that lets through doesn't apply
pub passes : (b : Bool) (r : Refusal) (x : ⊤) → Ok x ≡ row-of b r → b ≡ false
passes true r x e = absurd (let z : ◌≡◌ {A = ℕ} 0 1 = cc in omega arith)
passes false r x e = refl

-- one that refuses does
pub stops : (b : Bool) (r x : Refusal) → Err x ≡ row-of b r → (b ≡ true) × (x ≡ r)
stops true r x e = (refl, cc)
stops false r x e = absurd (let z : ◌≡◌ {A = ℕ} 0 1 = cc in omega arith)

-- the answer is that of the rows below one that doesn't apply
pub below : (b : Bool) (n m : ℕ) (r : Result ⊤ Refusal) → b ≡ false → r ≡ answer_with m tt → r ≡ answer_with (cond b n m) tt
below b n m r e k = k ∙ sym (rw e)

-- and that of one that does
pub row-is : (b : Bool) (n m : ℕ) (r : Result ⊤ Refusal) (x y : Refusal) → (b ≡ true) × (x ≡ y) → r ≡ Err x → refusal_number y ≡ n
    → r ≡ answer_with (cond b n m) tt
row-is b n m r x y h k e = k ∙ ap Err h.1 ∙ refused_is y n tt e ∙ sym (rw h.0)

-- the last row, over number 0
pub last-row : (b : Bool) (n : ℕ) (r : Refusal) → refusal_number r ≡ n → row-of b r ≡ answer_with (cond b n 0) tt
last-row true n r e = refused_is r n tt e
last-row false n r e = found_is 0 tt refl

-- what `?` passes on
pub passed-on : {T E : Type 0} {P : E → Type 0} (r : Result T E) (x : E) → IsErr r × IsErrAnd r P → ((y : E) → P y → y ≡ x) → r ≡ Err x
passed-on (Ok y) x h f = absurd (false≢true h.0)
passed-on (Err y) x h f = ap Err (f y h.1)

-- ---- the effect of a command, in any state
-- a refused one counts nothing and leaves the state
pub effect-refused : {S : Type 0} (s x : S) (n k : ℕ) → (n ≡ 0 → ⊥) → ((effect_of s n k x).count ≡ 0) × ((effect_of s n k x).state ≡ s)
effect-refused s x n k h = let f = ne_eqb n 0 h in (rw f, rw f)

-- one that counted was accepted
pub effect-counted : {S : Type 0} (s x : S) (n k : ℕ) → 1 ≤ (effect_of s n k x).count → n ≡ 0
effect-counted s x n k h = go (eqb n 0) refl h
  where
    go : (b : Bool) → eqb n 0 ≡ b → 1 ≤ cond b k 0 → n ≡ 0
    go true e h = eqb-true n 0 e
    go false e h = absurd (omega (arith, h))

-- what holds of the state, and of what is left where it is accepted, holds of what is left
pub effect_either : {S : Type 0} (P : S → Type 0) (s x : S) (n k : ℕ) → P s → (n ≡ 0 → P x) → P (effect_of s n k x).state
effect_either P s x n k same done = go (eqb n 0) refl
  where
    go : (b : Bool) → eqb n 0 ≡ b → P (cond b x s)
    go true e = done (eqb-true n 0 e)
    go false e = same

-- a number that some answer has
pub record Known (n : ℕ) : Type 0 where
  pub answer : Result ⊤ Refusal
  pub number : number_of answer ≡ n

pub known-row : (b : Bool) (n m : ℕ) → Known n → Known m → Known (cond b n m)
known-row true n m h k = h
known-row false n m h k = k

-- the numbers of the table
pub table-known : (f : Facts) (a : Arguments) → Known (table f a)
table-known f a =
    known-row (knows a.verb 14 && is_empty a.set) 14 _ (record { answer = Err is.EmptySet; number = refl })
    (known-row (not f.by) 4 _ (record { answer = Err is.ByDead; number = refl })
    (known-row (knows a.verb 5 && not (f.on && f.to && f.members)) 5 _ (record { answer = Err is.NamedDead; number = refl })
    (known-row (knows a.verb 6 && f.on) 6 _ (record { answer = Err is.AlreadyLive; number = refl })
    (known-row (knows a.verb 7 && eqb a.on 0) 7 _ (record { answer = Err is.RootItem; number = refl })
    (known-row (knows a.verb 8 && not f.edits) 8 _ (record { answer = Err is.NoEdit; number = refl })
    (known-row (knows a.verb 12 && f.back) 12 _ (record { answer = Err is.ShiftBack; number = refl })
    (known-row (knows a.verb 9 && eqb a.right 0) 9 _ (record { answer = Err is.EditRight; number = refl })
    (known-row (knows a.verb 13 && f.past) 13 _ (record { answer = Err is.LastPast; number = refl })
    (known-row (knows a.verb 10 && f.full) 10 _ (record { answer = Err is.Full; number = refl })
    (record { answer = Ok tt; number = refl }))))))))))

pub answer-known : (f : Facts) (a : Arguments) → Known (answer f a)
answer-known f a = known-row (not (fits a)) 3 _ (record { answer = Err is.OutOfRange; number = refl }) (table-known f a)

pub asked-known : (p o r : ℕ) → Known (asked p o r)
asked-known p o r =
    known-row (not (items p o && right_depth r 0)) 3 0 (record { answer = Err is.OutOfRange; number = refl })
    (record { answer = Ok tt; number = refl })

-- an answer with a known number has it
pub known_number : {A : Type 0} (n : ℕ) (a : A) → Known n → number_of (answer_with n a) ≡ n
unfolding answer_with
known_number zero a k = refl
known_number (suc n) a k =
    rw (ne_eqb (suc n) 0 (λ z. omega arith)) (go k.answer k.number)
  where
    go : (r : Result ⊤ Refusal) → number_of r ≡ suc n → refusal_number (refusal_for (suc n)) ≡ suc n
    go (Ok x) e = absurd (omega (arith, e))
    go (Err r) e = ap refusal_number (ap refusal_for (sym e) ∙ refusal_for_lem r) ∙ e

-- an answer with a count that is 0 beside a refusal has it
pub counted_number : (n k : ℕ) → result_unwrap_or (answer_with n (cond (eqb n 0) k 0)) 0 ≡ cond (eqb n 0) k 0
unfolding answer_with
counted_number zero k = refl
counted_number (suc n) k = rw (ne_eqb (suc n) 0 (λ z. omega arith))

-- ---- checks
pub checked_yes_lem : (n : ℕ) (b : Bool) → checked_yes (answer_with n b) ≡ eqb n 0 && b
unfolding answer_with
checked_yes_lem zero true = refl
checked_yes_lem zero false = refl
checked_yes_lem (suc n) b = rw (ne_eqb (suc n) 0 (λ z. omega arith))

-- what was found, where a no has no depth and no persons
pub found_said_lem : (f : Found) → (f.yes ≡ false → f ≡ nothing) → found_in (Ok (found_said f)) ≡ f
unfolding found_said
found_said_lem f h = go f.yes refl
  where
    go : (b : Bool) → f.yes ≡ b → found_in (Ok (cond b (Some (record { depth = record { 0 = f.depth }; persons = f.persons })) None)) ≡ f
    go true e =
        let k : ◌≡◌ {A = Found} (record { yes = true; depth = f.depth; persons = f.persons })
        (record { yes = f.yes; depth = f.depth; persons = f.persons }) = rw e in
        k
    go false e = sym (h e)

-- ---- answers that rest on equal facts are equal
-- a row asks only of a command that knows it
row_same : (k x y : Bool) → (k ≡ true → x ≡ y) → k && x ≡ k && y
row_same true x y h = h refl
row_same false x y h = refl

-- only lend and shift ask about loans
pub table_same : (f g : Facts) → f.by ≡ g.by → f.on ≡ g.on → f.to ≡ g.to → f.members ≡ g.members → f.edits ≡ g.edits
    → (a : Arguments) → (knows a.verb 12 ≡ true → f.back ≡ g.back) → (knows a.verb 13 ≡ true → f.past ≡ g.past)
    → (knows a.verb 10 ≡ true → f.full ≡ g.full) → table f a ≡ table g a
table_same f g x y z m w a b p n =
    rw (x, y, z, m, w, row_same (knows a.verb 12) f.back g.back b, row_same (knows a.verb 13) f.past g.past p, row_same (knows a.verb 10) f.full g.full n)

-- a verb that no row about loans knows
pub record LoanFree (v : Verb) : Type 0 where
  pub back : knows v 12 ≡ false
  pub past : knows v 13 ≡ false
  pub full : knows v 10 ≡ false

-- of such a command the facts about loans don't matter
pub table-flat : (f g : Facts) → f.by ≡ g.by → f.on ≡ g.on → f.to ≡ g.to → f.members ≡ g.members → f.edits ≡ g.edits
    → (a : Arguments) → LoanFree a.verb → table f a ≡ table g a
table-flat f g x y z m w a h =
    table_same f g x y z m w a (λ n. absurd (false≢true (sym h.back ∙ n))) (λ n. absurd (false≢true (sym h.past ∙ n)))
    (λ n. absurd (false≢true (sym h.full ∙ n)))
