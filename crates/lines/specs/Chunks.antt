-- The collector over a list of chunks.
use Rattle.std.specs.Prelude.{Option, None, cond, List, [], ◌∷◌, ◌++◌, ℕ, length}
use Rattle.lines.specs.declared.collect.Partial.{Partial}
use Rattle.lines.specs.declared.Request.{Request}
use Rattle.lines.specs.Collect.{Line, lines_of, nothing_held, begun, held_after, buffer_after, held_line}

-- the chunks as one
unfoldable pub whole : List (List ℕ) → List ℕ
whole [] = []
whole (c ∷ cs) = c ++ whole cs

-- what `feed` takes at a time: each chunk up to the end of a line, or to its own end
unfoldable pub pieces : List (List ℕ) → List Line
pieces [] = []
pieces (c ∷ cs) = lines_of c ++ pieces cs

-- the line buffer, and what is held in it
pub record Collector : Type 0 where
  pub buffer : List ℕ
  pub held : Partial

-- before any input
abbrev pub empty_with : List ℕ → Collector
empty_with buf = record { buffer = buf; held = nothing_held }

-- after the bytes of seg, as `feed` leaves them
abbrev pub takes : Collector → List ℕ → Collector
takes k seg = record { buffer = buffer_after k.buffer k.held seg; held = held_after (length k.buffer) k.held seg }

-- what the lines that end ask for, as `line` says; and one malformed line more where input ends in a line that has begun
unfoldable pub collected : Collector → List Line → List (Option Request)
collected k [] = cond (begun k.held) (None ∷ []) []
collected k (x ∷ xs) =
    cond x.ended (held_line (takes k x.text).buffer (takes k x.text).held ∷ collected (empty_with (takes k x.text).buffer) xs)
    (collected (takes k x.text) xs)
