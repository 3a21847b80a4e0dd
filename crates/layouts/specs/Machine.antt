-- What every unit is: the commands it has, numbers 1 and 2, what the table asks of its state, and what an accepted command does to it.
-- The number of a command, the state after it and the contracts of its functions follow, once for every unit.
use Rattle.std.specs.Prelude.{◌≡◌, Bool, not, cond, Option, Some, None, Result, ⊤, ℕ}
use Rattle.model.specs.declared.Command.{Command}
use Rattle.model.specs.declared.Arguments.{Arguments}
use Rattle.model.specs.declared.Facts.{Facts}
use Rattle.model.specs.declared.Refusal.{Refusal}
use Rattle.model.specs.Commands.{arguments_of}
use Rattle.model.specs.Answers.{answer, answer_for, Numbered, Effect, effect_of, Returns, table, ◌when◌else◌}

-- the answer n, after numbers 1, 'a lent buffer has a wrong length', and 2, 'a lent image to be read is not in order'
abbrev pub guarded_by : Bool → Bool → ℕ → ℕ
guarded_by sized ordered n = 1 when not sized else 2 when not ordered else n

-- a unit, over the state S that it is lent
pub record Machine (S : Type 0) : Type 0 where
  -- the commands that the unit has
  pub has : Command → Bool
  -- every lent buffer has its length, and what is to be read is in order
  pub sized : S → Bool
  pub ordered : S → Bool
  -- what the table of answers asks of the state
  pub facts : S → Arguments → Facts
  -- the state after an accepted command, and what it counts
  pub after : S → Arguments → S
  pub counts : S → Arguments → ℕ

module _ {S : Type 0} (M : Machine S) where
  -- a command's number
  abbrev pub answer_of : S → Command → ℕ
  answer_of s c = guarded_by (M.sized s) (M.ordered s) (answer (M.facts s (arguments_of c)) (arguments_of c))

  -- what a command comes to
  abbrev pub effect_in : S → Command → Effect S
  effect_in s c = effect_of s (answer_of s c) (M.counts s (arguments_of c)) (M.after s (arguments_of c))

  -- the state after it: 'all unchanged' where it is refused
  abbrev pub step_of : S → Command → S
  step_of s c = (effect_in s c).state

  -- and its count
  abbrev pub counted_of : S → Command → ℕ
  counted_of s c = (effect_in s c).count

  -- what a command comes to past numbers 1 to 3
  abbrev pub judged_in : S → Arguments → Effect S
  judged_in s a = effect_of s (table (M.facts s a) a) (M.counts s a) (M.after s a)

  -- its number n and state x
  abbrev pub Judged : S → Arguments → ℕ → S → Type 0
  Judged s a n x = (n ≡ (judged_in s a).number) × (x ≡ (judged_in s a).state)

  -- numbers 1 and 2 say nothing against a state: every lent buffer has its length, and what is to be read is in order
  abbrev pub InOrder : S → Type 0
  InOrder s = 0 ≡ guarded_by (M.sized s) (M.ordered s) 0

  -- 'in order before, in order after': no command, accepted or refused, takes a state out of order
  abbrev pub KeepsOrder : Type 0
  KeepsOrder = (s : S) (c : Command) → InOrder s → InOrder (step_of s c)

  -- answer r and state x of a command: the contract of every command of a unit that counts nothing
  abbrev pub Ran : S → Command → Result ⊤ Refusal → S → Type 0
  Ran s c r x = Numbered r (answer_of s c) tt × (x ≡ step_of s c)

  -- answer r, with its count, and state x of a command: the contract of every command of a unit that counts
  abbrev pub RanCounting : S → Command → Result ℕ Refusal → S → Type 0
  RanCounting s c r x = Returns (effect_in s c) r x

  -- the same of any command that is offered; one that the unit lacks is passed over: it has no answer
  abbrev pub Offers : S → Command → Option (Result ⊤ Refusal) → S → Type 0
  Offers s c r x =
      (r ≡ cond (M.has c) (Some (answer_for (answer_of s c))) None) × (x ≡ cond (M.has c) (step_of s c) s)
