-- The program's loop, over the session of a run.
-- No contract can say which bytes are read or written: `Came` and `Ran` say that there are some.
use Rattle.std.specs.Prelude.{◌≡◌, Option, Some, None, Result, Ok, Err, List, ℕ, ◌≤◌, length, take}
use Rattle.agreement.specs.Agreement.{Units}
use Rattle.lines.specs.Collect.{lines_of}
use Rattle.lines.specs.Chunks.{pieces}
use Rattle.stream.specs.declared.Progress.{Progress}
use Rattle.stream.specs.Session.{Session, session, session_after_all, Closes}
use Rattle.program.specs.declared.Failed.{Failed}

-- the units and the line buffer are those of a session
pub record Holds (s : Session) (u : Units) (buf : List ℕ) : Type 0 where
  pub units : u ≡ s.units
  pub line : buf ≡ s.collector.buffer

-- a chunk taken up to some byte of it
pub record StoppedIn (s : Session) (chunk : List ℕ) (u : Units) (buf : List ℕ) : Type 0 where
  pub used : ℕ
  pub part : used ≤ length chunk
  pub left : Holds (session_after_all s (lines_of (take used chunk))) u buf

-- a chunk answered: all of it is taken, and the run stands after it; or a write failed or nothing more could be taken, after a part of it
abbrev pub Answered : Session → List ℕ → Units → List ℕ → Result Progress Failed → Type 0
Answered s chunk u buf (Ok p) = session p.lines u buf p.held ≡ session_after_all s (lines_of chunk)
Answered s chunk u buf (Err e) = StoppedIn s chunk u buf

-- some chunk was answered
pub record Came (s : Session) (u : Units) (buf : List ℕ) (r : Result Progress Failed) : Type 0 where
  pub chunk : List ℕ
  pub answered : Answered s chunk u buf r

-- one read: a chunk came and was answered, an empty one where the read failed; at the end of input nothing changes
abbrev pub ReadOnce : Session → Units → List ℕ → Result (Option Progress) Failed → Type 0
ReadOnce s u buf (Ok (Some p)) = Came s u buf (Ok p)
ReadOnce s u buf (Ok None) = Holds s u buf
ReadOnce s u buf (Err e) = Came s u buf (Err e)

-- the closing lines put into the output, some number of bytes
pub record Finishes (out : List ℕ) (p : Progress) (out' : List ℕ) : Type 0 where
  pub written : ℕ
  pub closes : Closes out p.lines p.held written out'

-- read after read: the parts that were taken, and what is left after them
pub record Ran (s : Session) (u : Units) (buf : List ℕ) : Type 0 where
  pub parts : List (List ℕ)
  pub left : Holds (session_after_all s (pieces parts)) u buf
