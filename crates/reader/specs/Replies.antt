-- One line, run on the three units in their lent buffers; and the three units made fresh.
use Rattle.std.specs.Prelude.{◌≡◌, Option, Bool, ◌&&◌, cond, Result, ⊤, List, ℕ, length, eqb}
use Rattle.model.specs.declared.Refusal.{Refusal}
use Rattle.model.specs.Answers.{Numbered}
use Rattle.layouts.specs.Machine.{InOrder}
use Rattle.layouts.specs.Layouts.{lists, rows, flat_unit, list_words, row_bytes, grant_cells}
use Rattle.delegation.specs.Loans.{loan_words}
use Rattle.delegation.specs.Images.{images}
use Rattle.delegation.specs.ChainUnit.{chain_unit}
use Rattle.agreement.specs.Agreement.{Units, fresh_units}
use Rattle.lines.specs.declared.Request.{Request}
use Rattle.output.specs.declared.reply.Reply.{Reply}
use Rattle.transcript.specs.Program.{reply_of, via_of, units_after}

-- ---- one line
-- the units in their lent buffers
abbrev pub units_in : List ℕ → List ℕ → List ℕ → List ℕ → Units
units_in list row grants loans = record { lists = list; rows = row; chains = images grants loans }

-- the three units are in order: fresh ones are, and no line takes them out of it
pub record UnitsInOrder (u : Units) : Type 0 where
  pub list : InOrder (flat_unit lists) u.lists
  pub row : InOrder (flat_unit rows) u.rows
  pub chain : InOrder chain_unit u.chains

-- what running a line replies, and what it leaves in the chain buffer and the units
pub record Replies (u : Units) (x : Option Request) (r : Reply) (via : List ℕ) (u' : Units) : Type 0 where
  pub reply : r ≡ reply_of u x
  pub buffer : via ≡ via_of u x
  pub units : u' ≡ units_after u x

-- the buffers of the three units have their lengths
abbrev pub sized : Units → Bool
sized u =
    eqb (length u.lists) list_words
    && (eqb (length u.rows) row_bytes && (eqb (length u.chains.grants) grant_cells && eqb (length u.chains.loans) loan_words))

-- 'making a fresh unit knows 1 alone': three units made fresh, or nothing changed
unfoldable pub start_number : Units → ℕ
start_number u = cond (sized u) 0 1

-- and the units then
unfoldable pub start_of : Units → Units
start_of u = cond (sized u) fresh_units u

-- answer r and units x of making the three units fresh
abbrev pub Starts : Units → Result ⊤ Refusal → Units → Type 0
Starts u r x = Numbered r (start_number u) tt × (x ≡ start_of u)
