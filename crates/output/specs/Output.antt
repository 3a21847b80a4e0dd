-- Lines of output, and what the three units reply to a line.
use Rattle.std.specs.Prelude.{◌≡◌, Bool, cond, Option, Some, None, Result, ⊤, List, [], ◌∷◌, ◌++◌, ℕ, ◌+◌, ◌≤◌, length, take, replicate, eqb, leb}
use Rattle.std.proofs.lemmas.List.Edits.{sets}
use Rattle.model.specs.declared.Command.{Command}
use Rattle.model.specs.declared.Refusal.{Refusal}
use Rattle.model.specs.declared.Refusal.TheVariants as is
use Rattle.model.specs.Commands.{is_sweep}
use Rattle.model.specs.Answers.{Found, refusal_number, number_of}
use Rattle.output.specs.declared.reply.Said.{Said}
use Rattle.output.specs.declared.reply.Said.TheVariants.{Number, Yes, No, Passed}
use Rattle.output.specs.declared.reply.Tail.{Tail}
use Rattle.output.specs.declared.reply.Tail.TheVariants.{Nothing, Dashes, Chain, Swept, Unswept}
use Rattle.output.specs.declared.reply.Reply.{Reply}
use Rattle.lines.specs.Bytes.{bytes}
use Rattle.lines.specs.Show.{shown}

-- ---- lines of output
-- 'each unit's field is its number, yes or no; there `-` means that the unit passes the command over'
unfoldable pub said_text : Said → List ℕ
said_text (Number n) = shown n
said_text Yes = bytes "yes"
said_text No = bytes "no"
said_text Passed = bytes "-"

-- 'its chain's persons, p0 first, a comma between': those after the first, and all
unfoldable pub more_persons : List ℕ → List ℕ
more_persons [] = []
more_persons (p ∷ ps) = bytes "," ++ (shown p ++ more_persons ps)

-- all of them
unfoldable pub persons : List ℕ → List ℕ
persons [] = []
persons (p ∷ ps) = shown p ++ more_persons ps

-- the two fields of a check that shows no chain
abbrev pub dashes : List ℕ
dashes = bytes " depth=- via=-"

-- 'Its output line gains `swept=` and the count': the key
abbrev pub swept_key : List ℕ
swept_key = bytes " swept="

-- the field of a refused sweep: '`-` when refused'
abbrev pub unswept : List ℕ
unswept = bytes " swept=-"

-- 'After a check come the chain unit's depth and, as `via`, its chain's persons .. when the chain unit says no, both are `-`';
-- the persons stand in the chain buffer `via`. After a sweep comes its count
unfoldable pub tail_text : Tail → List ℕ → List ℕ
tail_text Nothing via = []
tail_text Dashes via = dashes
tail_text (Chain depth n) via = bytes " depth=" ++ (shown depth ++ (bytes " via=" ++ persons (take n via)))
tail_text (Swept n) via = swept_key ++ shown n
tail_text Unswept via = unswept

-- each line of output is ended by byte 10
unfoldable pub newline : List ℕ
newline = 10 ∷ []

-- line number n, with the three units' fields and what comes after them
abbrev pub line_text : ℕ → List ℕ → List ℕ → List ℕ → List ℕ → List ℕ
line_text n list row chain rest =
    bytes "line="
    ++ (shown n ++ (bytes " list=" ++ (list ++ (bytes " row=" ++ (row ++ (bytes " chain=" ++ (chain ++ (rest ++ newline))))))))

-- the three units' fields
abbrev pub units_text : Said → Said → Said → List ℕ
units_text list row chain = bytes " list=" ++ (said_text list ++ (bytes " row=" ++ (said_text row ++ (bytes " chain=" ++ said_text chain))))

-- line n for a reply, with the chain buffer after the check: 'line=6 list=no row=no chain=yes depth=0 via=3,4'
unfoldable pub output_line : ℕ → Reply → List ℕ → List ℕ
output_line n r via = line_text n (said_text r.list) (said_text r.row) (said_text r.chain) (tail_text r.tail via)

-- 'its last output line, `lines=`, gives the number of input lines, malformed ones counted'
unfoldable pub last_output : ℕ → List ℕ
last_output n = bytes "lines=" ++ (shown n ++ newline)

-- there is room for any line from a place on
abbrev pub room : ℕ → ℕ → Bool
room size at = leb (at + 128) size

-- xs written into b from a place on, where there is room, leaves b' and goes on at r
pub record Puts (b : List ℕ) (at : ℕ) (xs : List ℕ) (r : ℕ) (b' : List ℕ) : Type 0 where
  pub place : r ≡ cond (room (length b) at) (at + length xs) at
  pub buffer : b' ≡ cond (room (length b) at) (sets b at xs) b
  pub short : r ≤ at + 128

-- ---- what the units reply
abbrev pub reply : Said → Said → Said → Tail → Reply
reply l r c t = record { list = l; row = r; chain = c; tail = t }

-- a command that a unit may lack
abbrev pub offered_said : Bool → ℕ → Said
offered_said has n = cond has (Number n) Passed

-- the same of what the unit made of it
abbrev pub offered_of : Option (Result ⊤ Refusal) → Said
offered_of (Some a) = Number (number_of a)
offered_of None = Passed

-- what comes after a command, by the chain unit's number and count: of sweep the count, '`-` when refused', of any other nothing
abbrev pub command_tail : Command → ℕ → ℕ → Tail
command_tail c n k = cond (is_sweep c) (cond (eqb n 0) (Swept k) Unswept) Nothing

-- a check's number and yes
abbrev pub check_said : ℕ → Bool → Said
check_said n y = cond (eqb n 0) (cond y Yes No) (Number n)

-- what comes after a check, by what the chain unit found
abbrev pub check_tail : Found → Tail
check_tail f = cond f.yes (Chain f.depth f.persons) Dashes

-- 'A malformed line shows 11 in all three and no more fields'
abbrev pub malformed_reply : Reply
malformed_reply = reply (Number (refusal_number is.Malformed)) (Number (refusal_number is.Malformed)) (Number (refusal_number is.Malformed)) Nothing

-- the chain buffer lent to a check
abbrev pub lent_buffer : List ℕ
lent_buffer = replicate 8 0
