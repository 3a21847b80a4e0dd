-- Numbers 1 to 3 of a command and of a check, before the table of answers and before any image is asked.
use Rattle.std.specs.Prelude.{Option, Result, Ok, Err, ⊤, ok_or, ℕ}
use Rattle.model.specs.declared.Command.{Command}
use Rattle.model.specs.declared.Typed.{Typed}
use Rattle.model.specs.declared.Question.{Question}
use Rattle.model.specs.declared.Refusal.{Refusal}
use Rattle.model.specs.declared.Refusal.TheVariants as is
use Rattle.model.specs.Commands.{arguments_of, within_of, question_of}

-- 'The lowest number that applies is given': a refusal by order, which is what 1 and 2 say, then by 3 where a limit is passed
abbrev pub admission : {A : Type 0} → Result ⊤ Refusal → Option A → Result A Refusal
admission (Ok x) within = ok_or within is.OutOfRange
admission (Err r) within = Err r

-- of a command: 'an item above 63, right above 7 or depth above 7' and 'a shift above 255' are 3
abbrev pub command_admission : Result ⊤ Refusal → Command → Result Typed Refusal
command_admission order c = admission order (within_of (arguments_of c))

-- 'The check knows 1, 2, 3'
abbrev pub check_admission : Result ⊤ Refusal → ℕ → ℕ → ℕ → Result Question Refusal
check_admission order who on right = admission order (question_of who on right)
