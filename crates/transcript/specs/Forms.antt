-- The forms of the output's lines.
use Rattle.std.specs.Prelude.{Bool, cond, List, [], ◌++◌, ℕ, suc, ◌+◌}
use Rattle.lines.specs.Bytes.{bytes}
use Rattle.lines.specs.Show.{shown}
use Rattle.output.specs.Output.{more_persons, dashes, swept_key, unswept, line_text, last_output}

-- a unit's yes or no, as text
abbrev pub yes_no : Bool → List ℕ
yes_no b = cond b (bytes "yes") (bytes "no")

-- line n: as in 'list=0 row=0 chain=0', 'list=- row=- chain=0', 'list=- row=- chain=0 swept=2', 'list=- row=- chain=4 swept=-',
-- 'list=3 row=3 chain=3 depth=- via=-', 'list=no row=no chain=no depth=- via=-' and 'list=no row=no chain=yes depth=0 via=3,4'. List and
-- row never differ; the chain unit's number may, after a drop
pub data Form (n : ℕ) : List ℕ → Type 0 where
  numbers : (a b : ℕ) → Form n (line_text n (shown a) (shown a) (shown b) [])
  passed : (a : ℕ) → Form n (line_text n (bytes "-") (bytes "-") (shown a) [])
  swept : (k : ℕ) → Form n (line_text n (bytes "-") (bytes "-") (shown 0) (swept_key ++ shown k))
  not-swept : (a : ℕ) → Form n (line_text n (bytes "-") (bytes "-") (shown a) unswept)
  refused : (a : ℕ) → Form n (line_text n (shown a) (shown a) (shown a) dashes)
  no : (b : Bool) → Form n (line_text n (yes_no b) (yes_no b) (bytes "no") dashes)
  yes : (b : Bool) (depth p : ℕ) (ps : List ℕ)
      → Form n
      (line_text n (yes_no b) (yes_no b) (bytes "yes") (bytes " depth=" ++ (shown depth ++ (bytes " via=" ++ (shown p ++ more_persons ps)))))

-- k lines after n, and the last
pub data Formed : ℕ → ℕ → List ℕ → Type 0 where
  last : {n : ℕ} → Formed n 0 (last_output n)
  next : {n k : ℕ} {rest : List ℕ} → (text : List ℕ) → Form (n + 1) text → Formed (n + 1) k rest → Formed n (suc k) (text ++ rest)
