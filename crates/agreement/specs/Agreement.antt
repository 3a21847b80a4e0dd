-- Demand 3, as one statement about a whole list of commands.
use Rattle.std.specs.Prelude.{◌≡◌, true, false, cond, List, [], ◌∷◌, ◌↔◌, ℕ, ◌≤◌, length}
use Rattle.bits.specs.Sets.{any}
use Rattle.model.specs.declared.Command.{Command}
use Rattle.model.specs.Answers.{flat, asked, nothing}
use Rattle.layouts.specs.Machine.{answer_of, counted_of, step_of}
use Rattle.model.specs.Journal.{Journal, answered, counted, fresh, step, has_grant, is_drop}
use Rattle.layouts.specs.Layouts.{Layout, lists, rows, flat_unit, check_number, check_yes, check_left, fresh_image}
use Rattle.model.specs.Chain.{Meets, FewestPersons, JournalChain, JournalAccess}
use Rattle.delegation.specs.Images.{Images}
use Rattle.delegation.specs.ChainUnit.{chain_unit, chain_check_number, chain_found, chain_buffer, chain_left, chain_fresh}

-- what each unit holds
pub record Units : Type 0 where
  pub lists : List ℕ
  pub rows : List ℕ
  pub chains : Images

-- 'Lists, rows and chain unit start as the making of a fresh unit leaves them'
unfoldable pub fresh_units : Units
fresh_units = record { lists = fresh_image lists; rows = fresh_image rows; chains = chain_fresh }

-- ---- 'what demand 3 says of yes, depth and chain holds for each unit's check of every person, item and right'
-- Lists and rows say yes exactly when the journal has a grant.
pub record FlatAgrees (L : Layout) (j : Journal) (s : List ℕ) : Type 0 where
  pub number : (p o r : ℕ) → check_number L s p o r ≡ asked p o r
  pub yes : (p o r : ℕ) → check_yes L s p o r ≡ has_grant j p o r
  pub unchanged : (p o r : ℕ) → check_left L s p o r ≡ s

-- The chain unit says yes exactly when the journal has a chain, with the greatest depth of any, and writes one that has it, with the
-- fewest persons; 'with a chain buffer of its own of the right length'. Beyond the limits there is no chain, and the check is refused.
pub record ChainAgrees (j : Journal) (s : Images) : Type 0 where
  pub number : (buffer : List ℕ) → length buffer ≡ 8 → (p o r : ℕ) → chain_check_number s buffer p o r ≡ asked p o r
  pub meets : (buffer : List ℕ) → length buffer ≡ 8 → (p o r : ℕ) → asked p o r ≡ 0
      → Meets (λ ps a. JournalChain j o r ps p a) (chain_found s buffer p o r) (chain_buffer s buffer p o r)
  pub beyond : (buffer : List ℕ) → length buffer ≡ 8 → (p o r : ℕ) → (asked p o r ≡ 0 → ⊥)
      → (chain_found s buffer p o r ≡ nothing) × (chain_buffer s buffer p o r ≡ buffer)
      × ((ps : List ℕ) (a : ℕ) → JournalChain j o r ps p a → ⊥)
  -- 'This equals 002's four inference rules': they derive access at depth d exactly where the check says yes with at least d
  pub rules : (buffer : List ℕ) → length buffer ≡ 8 → (p o r d : ℕ)
      → JournalAccess j p o r d ↔ ((chain_found s buffer p o r).yes ≡ true) × (d ≤ (chain_found s buffer p o r).depth)
  -- the number of persons is the fewest of a best chain of the journal's
  pub persons : (buffer : List ℕ) → length buffer ≡ 8 → (p o r n : ℕ)
      → FewestPersons (λ ps a. JournalChain j o r ps p a) n
      ↔ ((chain_found s buffer p o r).yes ≡ true) × ((chain_found s buffer p o r).persons ≡ n)
  pub unchanged : (buffer : List ℕ) (p o r : ℕ) → chain_left s buffer p o r ≡ s

-- lists and rows are held to journal k, the chain unit to journal j
pub record Agrees (j k : Journal) (u : Units) : Type 0 where
  pub list : FlatAgrees lists k u.lists
  pub row : FlatAgrees rows k u.rows
  pub chain : ChainAgrees j u.chains

-- each unit gives its journal's number to a command that it has, and the chain unit its journal's count
pub record Answers (j k : Journal) (u : Units) (c : Command) : Type 0 where
  pub list : flat c ≡ true → answer_of (flat_unit lists) u.lists c ≡ answered k c
  pub row : flat c ≡ true → answer_of (flat_unit rows) u.rows c ≡ answered k c
  pub chain : answer_of chain_unit u.chains c ≡ answered j c
  pub count : counted_of chain_unit u.chains c ≡ counted j c

-- 'The same commands go to them and to the journal, in the same order; a unit that lacks a command isn't called for it. Each call
-- gets the images that the unit's last call left'
abbrev pub called : Units → Command → Units
called u c = record {
  lists = cond (flat c) (step_of (flat_unit lists) u.lists c) u.lists;
  rows = cond (flat c) (step_of (flat_unit rows) u.rows c) u.rows;
  chains = step_of chain_unit u.chains c;
}

-- 'Before the first call and after each'; `feed` says what journal k is fed
abbrev pub Follows : (Journal → Command → Journal) → Journal → Journal → Units → List Command → Type 0
Follows feed j k u [] = Agrees j k u
Follows feed j k u (c ∷ cs) = Agrees j k u × Answers j k u c × Follows feed (step j c) (feed k c) (called u c) cs

-- a journal that is fed only the commands that lists and rows have
abbrev pub flat_step : Journal → Command → Journal
flat_step k c = cond (flat c) (step k c) k

-- demand 3, with 'Lists and rows pass it over and are held to the journal only on lists without drop, the chain unit on all'
pub record Agreement (cs : List Command) : Type 0 where
  -- on every list of commands the chain unit follows the journal, and lists and rows one that is fed only the commands that they have
  pub every : Follows flat_step fresh fresh fresh_units cs
  -- on a list without drop all three follow the one journal
  pub dropless : any is_drop cs ≡ false → Follows step fresh fresh fresh_units cs

-- a journal after these commands, where `feed` feeds it
abbrev pub fed : (Journal → Command → Journal) → Journal → List Command → Journal
fed feed j [] = j
fed feed j (c ∷ cs) = fed feed (feed j c) cs
