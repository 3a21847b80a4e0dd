-- What a command answers: the numbers of documents 01 and 02, and the one table of answers for the journal and every unit.
use Rattle.std.specs.Prelude.{◌≡◌, Bool, true, false, not, ◌&&◌, ◌||◌, cond, Option, Some, None, Result, Ok, Err, ⊤, is_some, ℕ, eqb}
use Rattle.std.specs.Result.{result_unwrap_or}
use Rattle.model.specs.declared.Command.{Command}
use Rattle.model.specs.declared.Verb.{Verb}
use Rattle.model.specs.declared.Verb.TheVariants as verb
use Rattle.model.specs.declared.Arguments.{Arguments}
use Rattle.model.specs.declared.Facts.{Facts}
use Rattle.model.specs.declared.BestChain.{BestChain}
use Rattle.model.specs.declared.Refusal.{Refusal}
use Rattle.model.specs.declared.Refusal.TheVariants as is
use Rattle.model.specs.Commands.{arguments_of, fits, items, right_depth, is_empty}

-- n when the test holds, else m: a row of the table, then the rows below it
infixr 10 ◌when◌else◌
abbrev pub ◌when◌else◌ : ℕ → Bool → ℕ → ℕ
n when b else m = cond b n m

-- the number of each refusal
abbrev pub refusal_number : Refusal → ℕ
refusal_number is.WrongLength = 1
refusal_number is.NotInOrder = 2
refusal_number is.OutOfRange = 3
refusal_number is.ByDead = 4
refusal_number is.NamedDead = 5
refusal_number is.AlreadyLive = 6
refusal_number is.RootItem = 7
refusal_number is.NoEdit = 8
refusal_number is.EditRight = 9
refusal_number is.Full = 10
refusal_number is.Malformed = 11
refusal_number is.ShiftBack = 12
refusal_number is.LastPast = 13
refusal_number is.EmptySet = 14
-- of the ticket unit alone
refusal_number is.TicketsFull = 15
refusal_number is.NumbersSpent = 16
refusal_number is.NoTicket = 17

-- the refusal whose number is n
unfoldable pub refusal_for : ℕ → Refusal
refusal_for n =
    cond (eqb n 1) is.WrongLength (
    cond (eqb n 2) is.NotInOrder (
    cond (eqb n 3) is.OutOfRange (
    cond (eqb n 4) is.ByDead (
    cond (eqb n 5) is.NamedDead (
    cond (eqb n 6) is.AlreadyLive (
    cond (eqb n 7) is.RootItem (
    cond (eqb n 8) is.NoEdit (
    cond (eqb n 9) is.EditRight (
    cond (eqb n 10) is.Full (
    cond (eqb n 12) is.ShiftBack (
    cond (eqb n 13) is.LastPast (
    cond (eqb n 14) is.EmptySet (
    cond (eqb n 15) is.TicketsFull (
    cond (eqb n 16) is.NumbersSpent (
    cond (eqb n 17) is.NoTicket (
    is.Malformed))))))))))))))))

-- the number of an answer: 0 where the call is done, whatever it finds
abbrev pub number_of : {A : Type 0} → Result A Refusal → ℕ
number_of (Ok a) = 0
number_of (Err r) = refusal_number r

-- the answer with number n: what is found where n is 0, else the refusal
unfoldable pub answer_with : {A : Type 0} → ℕ → A → Result A Refusal
answer_with n a = cond (eqb n 0) (Ok a) (Err (refusal_for n))

-- the same of a call that finds nothing
abbrev pub answer_for : ℕ → Result ⊤ Refusal
answer_for n = answer_with n tt

-- r has number n, and finds a where that is 0
abbrev pub Numbered : {A : Type 0} → Result A Refusal → ℕ → A → Type 0
Numbered r n a = (number_of r ≡ n) × (r ≡ answer_with n a)

-- ---- a command: its effect
-- what a command comes to in some state: its number, a count, and the state that it leaves
pub record Effect (S : Type 0) : Type 0 where
  pub number : ℕ
  pub count : ℕ
  pub state : S

-- 'Where this or any later call is refused, whatever else it returns is 0 and every lent byte is unchanged': the effect with number n of a
-- command in state s that, where it is accepted, counts k and leaves x
abbrev pub effect_of : {S : Type 0} → S → ℕ → ℕ → S → Effect S
effect_of s n k x = record { number = n; count = cond (eqb n 0) k 0; state = cond (eqb n 0) x s }

-- answer r and state x are that effect
abbrev pub Returns : {S : Type 0} → Effect S → Result ℕ Refusal → S → Type 0
Returns q r x = Numbered r q.number q.count × (x ≡ q.state)

-- ---- a check: whether it says yes
abbrev pub checked_yes : Result Bool Refusal → Bool
checked_yes c = result_unwrap_or c false

-- ---- the same of a chain unit's check
-- what it finds: yes or no, depth and number of persons
pub record Found : Type 0 where
  pub yes : Bool
  pub depth : ℕ
  pub persons : ℕ

-- 'On no, .. depth and number 0'
abbrev pub nothing : Found
nothing = record { yes = false; depth = 0; persons = 0 }

-- what its answer tells: a yes with its values, else nothing
abbrev pub found_in : Result (Option BestChain) Refusal → Found
found_in (Ok (Some best)) = record { yes = true; depth = best.depth.0; persons = best.persons }
found_in (Ok None) = nothing
found_in (Err r) = nothing

-- the chain that was found
unfoldable pub found_said : Found → Option BestChain
found_said f = cond f.yes (Some (record { depth = record { 0 = f.depth }; persons = f.persons })) None

-- ---- the table
-- the numbers from 5 on that each command knows, in the words of the table ('create: ..', 'delete: ..', 'lend: ..')
abbrev pub knows : Verb → ℕ → Bool
knows verb.Create n = eqb n 6
knows verb.Delete n = eqb n 5 || eqb n 7 || eqb n 8
knows verb.Allow n = eqb n 5 || eqb n 8
knows verb.Withdraw n = eqb n 5 || eqb n 8
knows verb.Lend n = eqb n 5 || eqb n 9 || eqb n 13 || eqb n 10
knows verb.Recall n = eqb n 5
knows verb.Shift n = eqb n 8 || eqb n 12
knows verb.AllowSet n = eqb n 14 || eqb n 5 || eqb n 8
-- 'drop has withdraw's refusals'
knows verb.Drop n = eqb n 5 || eqb n 8
-- '`do=sweep by` (numbers 1 to 4)'
knows verb.Sweep n = false

-- 'Each has the first four commands', and of allowset 'all units .. have it': lists and rows have what changes every image alike
abbrev pub flat : Command → Bool
flat c = is_some (arguments_of c).edit

-- 'The lowest number that applies is given': the rows past 3, in their order, with '14 when the set is empty, straight after 3' and
-- '12 .. after 8; 13, for lend only, .. between 9 and 10'
abbrev pub table : Facts → Arguments → ℕ
table f a =
    14 when knows a.verb 14 && is_empty a.set else
    4 when not f.by else
    5 when knows a.verb 5 && not (f.on && f.to && f.members) else
    6 when knows a.verb 6 && f.on else
    7 when knows a.verb 7 && eqb a.on 0 else
    8 when knows a.verb 8 && not f.edits else
    12 when knows a.verb 12 && f.back else
    9 when knows a.verb 9 && eqb a.right 0 else
    13 when knows a.verb 13 && f.past else
    10 when knows a.verb 10 && f.full else
    0

-- and 3 before that: an argument beyond its limit
abbrev pub answer : Facts → Arguments → ℕ
answer f a = 3 when not (fits a) else table f a

-- 'The check knows 1, 2, 3': the number of a question that finds its buffers in order
abbrev pub asked : ℕ → ℕ → ℕ → ℕ
asked who on right = 3 when not (items who on && right_depth right 0) else 0
