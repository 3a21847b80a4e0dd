-- The program between two chunks of input: what it keeps, what it writes for each piece of input, and what it writes at the end.
use Rattle.std.specs.Prelude.{◌≡◌, Option, Bool, ◌&&◌, cond, List, [], ◌∷◌, ◌++◌, ℕ, ◌+◌, ◌≤◌, length, leb, ltb}
use Rattle.agreement.specs.Agreement.{Units, fresh_units}
use Rattle.lines.specs.declared.Request.{Request}
use Rattle.lines.specs.declared.collect.Partial.{Partial}
use Rattle.lines.specs.Show.{Wrote}
use Rattle.lines.specs.Collect.{Line, line, lines_of, before_newline, nothing_held, begun, ends_in, used_in, held_line}
use Rattle.lines.specs.Chunks.{Collector, empty_with, takes}
use Rattle.output.specs.Output.{output_line, last_output, room, malformed_reply, lent_buffer}
use Rattle.transcript.specs.Program.{reply_of, via_of, units_after}

-- ---- a run of the program
-- how many lines ended, the units, and the line buffer with what is held in it
pub record Session : Type 0 where
  pub lines : ℕ
  pub units : Units
  pub collector : Collector

-- the same of its parts
abbrev pub session : ℕ → Units → List ℕ → Partial → Session
session n u buf p = record { lines = n; units = u; collector = record { buffer = buf; held = p } }

-- before any input: no line, fresh units, nothing held
abbrev pub fresh_session : List ℕ → Session
fresh_session buffer = session 0 fresh_units buffer nothing_held

-- what the line asks for that ends with the piece x
abbrev pub asks_in : Session → Line → Option Request
asks_in s x = held_line (takes s.collector x.text).buffer (takes s.collector x.text).held

-- after a piece of input: a line that ends is run, and one that doesn't is held
unfoldable pub session_after : Session → Line → Session
session_after s x =
    cond x.ended
    (record {
      lines = s.lines + 1;
      units = units_after s.units (asks_in s x);
      collector = empty_with (takes s.collector x.text).buffer;
    })
    (record { lines = s.lines; units = s.units; collector = takes s.collector x.text })

-- the output for it: a line where one ends
unfoldable pub piece_output : Session → Line → List ℕ
piece_output s x = cond x.ended (output_line (s.lines + 1) (reply_of s.units (asks_in s x)) (via_of s.units (asks_in s x))) []

-- after a list of pieces
unfoldable pub session_after_all : Session → List Line → Session
session_after_all s [] = s
session_after_all s (x ∷ xs) = session_after_all (session_after s x) xs

-- and the output for them
unfoldable pub pieces_output : Session → List Line → List ℕ
pieces_output s [] = []
pieces_output s (x ∷ xs) = piece_output s x ++ pieces_output (session_after s x) xs

-- the output at the end of input, after n lines: a line that has begun is malformed and counted
unfoldable pub closing : ℕ → Partial → List ℕ
closing n p = cond (begun p) (output_line (n + 1) malformed_reply lent_buffer ++ last_output (n + 1)) (last_output n)

-- what a run writes that takes its input in these parts: the output of each, and the closing lines
unfoldable pub parts_output : Session → List (List ℕ) → List ℕ
parts_output s [] = closing s.lines s.collector.held
parts_output s (c ∷ cs) = pieces_output s (lines_of c) ++ parts_output (session_after_all s (lines_of c)) cs

-- ---- what the reader's functions do
-- the piece that `feed` takes of a chunk
abbrev pub piece_of : List ℕ → Line
piece_of chunk = line (before_newline chunk) (ends_in chunk)

-- line n that ended run, and its output written from a place on; r is the place after it
pub record Runs (u : Units) (x : Option Request) (n : ℕ) (out : List ℕ) (at r : ℕ) (u' : Units) (out' : List ℕ) : Type 0 where
  pub units : u' ≡ units_after u x
  pub output : Wrote out at (output_line n (reply_of u x) (via_of u x)) r out'
  pub short : r ≤ at + 128

-- one piece of a chunk taken, its output written from a place on; r is the place after it
pub record Takes (s : Session) (chunk out : List ℕ) (at used r : ℕ) (s' : Session) (out' : List ℕ) : Type 0 where
  pub part : used ≡ used_in chunk
  pub session : s' ≡ session_after s (piece_of chunk)
  pub output : Wrote out at (piece_output s (piece_of chunk)) r out'
  pub short : r ≤ at + 128

-- the number of lines that a run ends at, so that counting never wraps
abbrev pub last_lines : ℕ
last_lines = 18446744073709551614

-- the next piece is taken: the output has room for a line from a place on, and one more line can be counted
abbrev pub goes_on : ℕ → ℕ → Session → Bool
goes_on size at s = room size at && ltb s.lines last_lines

-- the pieces that are taken of these, one after another while it goes on; their output goes into a buffer of size bytes, from a place on
unfoldable pub taken_from : ℕ → ℕ → Session → List Line → List Line
taken_from size at s [] = []
taken_from size at s (x ∷ xs) = cond (goes_on size at s) (x ∷ taken_from size (at + length (piece_output s x)) (session_after s x) xs) []

-- the pieces of a chunk that are taken into an empty buffer
abbrev pub taken_of : ℕ → Session → List ℕ → List Line
taken_of size s chunk = taken_from size 0 s (lines_of chunk)

-- how many bytes of input a piece is, with its byte 10
abbrev pub piece_bytes : Line → ℕ
piece_bytes x = cond x.ended (length x.text + 1) (length x.text)

-- and how many some pieces are
unfoldable pub bytes_of : List Line → ℕ
bytes_of [] = 0
bytes_of (x ∷ xs) = piece_bytes x + bytes_of xs

-- a chunk taken, or its first pieces, as many as the output has room for: how much that is, what it leaves, and what it writes
pub record Consumes (s : Session) (chunk out : List ℕ) (used written : ℕ) (s' : Session) (out' : List ℕ) : Type 0 where
  pub part : used ≡ bytes_of (taken_of (length out) s chunk)
  pub session : s' ≡ session_after_all s (taken_of (length out) s chunk)
  pub output : Wrote out 0 (pieces_output s (taken_of (length out) s chunk)) written out'
  pub within : written ≤ length out

-- there is room for the last two lines, and counting one more doesn't wrap
abbrev pub closable : ℕ → ℕ → Bool
closable size n = leb 256 size && leb n last_lines

-- the end of input: the closing lines, or nothing where there is no room
pub record Closes (out : List ℕ) (n : ℕ) (p : Partial) (r : ℕ) (out' : List ℕ) : Type 0 where
  pub output : Wrote out 0 (cond (closable (length out) n) (closing n p) []) r out'
  pub within : r ≤ length out
