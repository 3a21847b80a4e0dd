-- The program's whole meaning: all output bytes, for all input bytes.
use Rattle.std.specs.Prelude.{Option, Some, None, List, [], ◌∷◌, ◌++◌, map, ℕ, ◌+◌}
use Rattle.agreement.specs.Agreement.{Units, fresh_units, called}
use Rattle.lines.specs.declared.Request.{Request}
use Rattle.lines.specs.Collect.{lines_of, parsed_of}
use Rattle.lines.specs.Chunks.{pieces, empty_with, collected}
use Rattle.output.specs.Output.{output_line, last_output, reply, offered_said, command_tail, check_said, check_tail, malformed_reply, lent_buffer}
use Rattle.model.specs.Answers.{flat}
use Rattle.layouts.specs.Machine.{answer_of, counted_of}
use Rattle.layouts.specs.Layouts.{lists, rows, flat_unit, check_number, check_yes}
use Rattle.delegation.specs.ChainUnit.{chain_unit, chain_check_number, chain_found, chain_buffer}
use Rattle.lines.specs.declared.Request.TheVariants.{Run, Ask}
use Rattle.output.specs.declared.reply.Said.TheVariants.{Number}
use Rattle.output.specs.declared.reply.Reply.{Reply}

-- the reply to what a line asks for: lists and rows pass over lend and recall; sweep's count; a check's numbers, yes or no, depth and chain
unfoldable pub reply_of : Units → Option Request → Reply
reply_of u (Some (Run c)) =
    reply (offered_said (flat c) (answer_of (flat_unit lists) u.lists c)) (offered_said (flat c) (answer_of (flat_unit rows) u.rows c))
    (Number (answer_of chain_unit u.chains c)) (command_tail c (answer_of chain_unit u.chains c) (counted_of chain_unit u.chains c))
reply_of u (Some (Ask who on right)) =
    reply (check_said (check_number lists u.lists who on right) (check_yes lists u.lists who on right))
    (check_said (check_number rows u.rows who on right) (check_yes rows u.rows who on right))
    (check_said (chain_check_number u.chains lent_buffer who on right) (chain_found u.chains lent_buffer who on right).yes)
    (check_tail (chain_found u.chains lent_buffer who on right))
reply_of u None = malformed_reply

-- the chain buffer after the line
unfoldable pub via_of : Units → Option Request → List ℕ
via_of u (Some (Run c)) = lent_buffer
via_of u (Some (Ask who on right)) = chain_buffer u.chains lent_buffer who on right
via_of u None = lent_buffer

-- the units after the line: a command is called, and 'no check changes an image'
unfoldable pub units_after : Units → Option Request → Units
units_after u (Some (Run c)) = called u c
units_after u (Some (Ask who on right)) = u
units_after u None = u

-- 'The program goes on after every line': the output for lines that ask for xs, after n lines; '`line` counts from 1'
unfoldable pub output_from : ℕ → Units → List (Option Request) → List ℕ
output_from n u [] = last_output n
output_from n u (x ∷ xs) = output_line (n + 1) (reply_of u x) (via_of u x) ++ output_from (n + 1) (units_after u x) xs

-- what the lines of the input ask for
abbrev pub asks_of : List ℕ → List (Option Request)
asks_of s = map parsed_of (lines_of s)

-- 'The program reads standard input into fresh units'
unfoldable pub output_of : List ℕ → List ℕ
output_of s = output_from 0 fresh_units (asks_of s)

-- the output of the program that gets its input in chunks, over a line buffer
abbrev pub output_of_chunks : List ℕ → List (List ℕ) → List ℕ
output_of_chunks buffer chunks = output_from 0 fresh_units (collected (empty_with buffer) (pieces chunks))
