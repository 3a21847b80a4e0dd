-- Demand 3 at the text interface: the output that the journal allows. No unit is named here. As in `Follows`, lists and rows are held
-- to a journal k and the chain unit to a journal j; where one journal is meant for all, both are it. The theorem is `text_agreement`.
use Rattle.std.specs.Prelude.{◌≡◌, Option, Some, None, false, cond, List, [], ◌∷◌, ◌++◌, ℕ, ◌+◌, length}
use Rattle.bits.specs.Sets.{any}
use Rattle.model.specs.declared.Command.{Command}
use Rattle.model.specs.Answers.{asked, flat}
use Rattle.model.specs.Journal.{Journal, answered, counted, fresh, step, has_grant, is_drop}
use Rattle.model.specs.Chain.{Shortest, JournalChain}
use Rattle.agreement.specs.Agreement.{flat_step}
use Rattle.lines.specs.declared.Request.{Request}
use Rattle.lines.specs.declared.Request.TheVariants.{Run, Ask}
use Rattle.output.specs.declared.reply.Said.{Said}
use Rattle.output.specs.declared.reply.Said.TheVariants.{Number, Yes, No}
use Rattle.output.specs.declared.reply.Tail.TheVariants.{Nothing, Dashes, Chain}
use Rattle.output.specs.Output.{output_line, last_output, reply, offered_said, command_tail}

-- what lists and rows say of a check: yes exactly when a grant stands
abbrev pub grant_said : Journal → ℕ → ℕ → ℕ → Said
grant_said k p o r = cond (has_grant k p o r) Yes No

-- what they show of a command: their journal's number, or `-` where they lack it
abbrev pub flat_answer : Journal → Command → Said
flat_answer k c = offered_said (flat c) (answered k c)

-- line n, after a command: its numbers, and of sweep the count
abbrev pub command_line : Journal → Journal → ℕ → Command → List ℕ
command_line j k n c =
    output_line n (reply (flat_answer k c) (flat_answer k c) (Number (answered j c)) (command_tail c (answered j c) (counted j c))) []

-- line n, after a check of person p on item o, right r
pub data CheckLine (j k : Journal) (n p o r : ℕ) : List ℕ → Type 0 where
  -- 'A refused check shows its number in all three and `-` in the rest'
  refused : (asked p o r ≡ 0 → ⊥)
      → CheckLine j k n p o r (output_line n (reply (Number (asked p o r)) (Number (asked p o r)) (Number (asked p o r)) Dashes) [])
  -- no chain is there
  none : asked p o r ≡ 0 → ((ps : List ℕ) (a : ℕ) → JournalChain j o r ps p a → ⊥)
      → CheckLine j k n p o r (output_line n (reply (grant_said k p o r) (grant_said k p o r) No Dashes) [])
  -- a chain with the greatest last allowance of any and, of those, the fewest persons: that depth, and its persons
  found : asked p o r ≡ 0 → (g : Shortest (λ ps a. JournalChain j o r ps p a))
      → CheckLine j k n p o r
      (output_line n (reply (grant_said k p o r) (grant_said k p o r) Yes (Chain g.depth (length g.persons))) g.persons)

-- line n, for what is asked
abbrev pub LineAllowed : Journal → Journal → ℕ → Option Request → List ℕ → Type 0
LineAllowed j k n (Some (Run c)) text = text ≡ command_line j k n c
LineAllowed j k n (Some (Ask who on right)) text = CheckLine j k n who on right text
LineAllowed j k n None text = text ≡ output_line n (reply (Number 11) (Number 11) (Number 11) Nothing) []

-- a journal after what is asked, where `feed` feeds it
abbrev pub journal_after : (Journal → Command → Journal) → Journal → Option Request → Journal
journal_after feed j (Some (Run c)) = feed j c
journal_after feed j (Some (Ask who on right)) = j
journal_after feed j None = j

-- the output after n lines, by recursion over what the lines ask for
pub data Allowed (feed : Journal → Command → Journal) : Journal → Journal → ℕ → List (Option Request) → List ℕ → Type 0 where
  last : {j k : Journal} {n : ℕ} → Allowed feed j k n [] (last_output n)
  next : {j k : Journal} {n : ℕ} {x : Option Request} {xs : List (Option Request)} {rest : List ℕ} → (text : List ℕ)
      → LineAllowed j k (n + 1) x text → Allowed feed (journal_after step j x) (journal_after feed k x) (n + 1) xs rest
      → Allowed feed j k n (x ∷ xs) (text ++ rest)

-- the commands among what is asked
abbrev pub commands_of : List (Option Request) → List Command
commands_of [] = []
commands_of (Some (Run c) ∷ xs) = c ∷ commands_of xs
commands_of (Some (Ask who on right) ∷ xs) = commands_of xs
commands_of (None ∷ xs) = commands_of xs

-- demand 3 at the text, from fresh units on: the output for lines that ask for xs
pub record TextAgreement (xs : List (Option Request)) (output : List ℕ) : Type 0 where
  -- whatever the lines ask for, each `chain=` shows what the journal says, and each `list=` and `row=` what a journal says that is fed only
  -- the commands that lists and rows have
  pub every : Allowed flat_step fresh fresh 0 xs output
  -- without a drop line all three show what the one journal says
  pub dropless : any is_drop (commands_of xs) ≡ false → Allowed step fresh fresh 0 xs output
