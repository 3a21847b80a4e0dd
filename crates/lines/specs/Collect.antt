-- Input as lines, and the collector that puts them together from chunks.
use Rattle.std.specs.Prelude.{Option, None, Bool, true, false, ◌||◌, cond, List, [], ◌∷◌, ◌++◌, ℕ, ◌+◌, length, take, eqb, ltb}
use Rattle.std.proofs.lemmas.List.Edits.{sets}
use Rattle.lines.specs.declared.collect.Partial.{Partial}
use Rattle.lines.specs.declared.collect.Fed.{Fed}
use Rattle.lines.specs.declared.Request.{Request}
use Rattle.lines.specs.Line.{parse_line}

-- ---- lines
-- the bytes of a line, and whether it is 'ended by byte 10', which is left out
pub record Line : Type 0 where
  pub text : List ℕ
  pub ended : Bool

-- a line by both
abbrev pub line : List ℕ → Bool → Line
line l b = record { text = l; ended = b }

-- what is left at the end of input, where the bytes l came after the last byte 10; none are no line
abbrev pub last_line : List ℕ → List Line
last_line [] = []
last_line (b ∷ l) = line (b ∷ l) false ∷ []

-- the lines of the bytes s, where the first of them has begun with l
unfoldable pub lines_from : List ℕ → List ℕ → List Line
lines_from l [] = last_line l
lines_from l (b ∷ s) = cond (eqb b 10) (line l true ∷ lines_from [] s) (lines_from (l ++ (b ∷ [])) s)

-- the lines of all input bytes
abbrev pub lines_of : List ℕ → List Line
lines_of s = lines_from [] s

-- what a line asks for; 'one not ended is malformed'
abbrev pub parsed_of : Line → Option Request
parsed_of x = cond x.ended (parse_line x.text) None

-- ---- the collector
-- the bytes before the first byte 10
unfoldable pub before_newline : List ℕ → List ℕ
before_newline [] = []
before_newline (b ∷ l) = cond (eqb b 10) [] (b ∷ before_newline l)

-- before the first byte of a line
abbrev pub nothing_held : Partial
nothing_held = record { len = 0; over = false }

-- some byte of a line came
abbrev pub begun : Partial → Bool
begun p = p.over || ltb 0 p.len

-- n more bytes go past a buffer of cap bytes
abbrev pub past : ℕ → Partial → ℕ → Bool
past cap p n = p.over || ltb cap (p.len + n)

-- what is held after the bytes of seg
unfoldable pub held_after : ℕ → Partial → List ℕ → Partial
held_after cap p seg =
    cond (past cap p (length seg)) (record { len = p.len; over = true }) (record { len = p.len + length seg; over = false })

-- the buffer after them
unfoldable pub buffer_after : List ℕ → Partial → List ℕ → List ℕ
buffer_after buf p seg = cond (past (length buf) p (length seg)) buf (sets buf p.len seg)

-- the line ended in the chunk
abbrev pub ends_in : List ℕ → Bool
ends_in chunk = ltb (length (before_newline chunk)) (length chunk)

-- the place after a line that ends at n, where its byte 10 stands, or which is the end of size bytes
abbrev pub after_line : ℕ → ℕ → ℕ
after_line n size = cond (ltb n size) (n + 1) n

-- how many bytes of the chunk are the line's, with its byte 10
abbrev pub used_in : List ℕ → ℕ
used_in chunk = after_line (length (before_newline chunk)) (length chunk)

-- what feeding a chunk tells
abbrev pub fed_of : ℕ → Partial → List ℕ → Fed
fed_of cap p chunk = record { ended = ends_in chunk; used = used_in chunk; held = held_after cap p (before_newline chunk) }

-- what an ended line asks for; one that is longer than the buffer is malformed
abbrev pub held_line : List ℕ → Partial → Option Request
held_line buf p = cond (past (length buf) p 0) None (parse_line (take p.len buf))
