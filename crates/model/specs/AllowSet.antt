-- What allowset promises, of the journal and of every unit: 'It does what the single allows do in any order, or nothing, with the lowest
-- refusal's number, if any of them is refused.' The theorems are `journal_allowset`,
-- `lists_allowset`, `rows_allowset` and `chain_allowset`.
use Rattle.std.specs.Prelude.{◌≡◌, false, List, [], ◌∷◌, map, ℕ, eqb}
use Rattle.bits.specs.Sets.{any}
use Rattle.model.specs.declared.Command.{Command}
use Rattle.model.specs.declared.Command.TheVariants.{AllowSet}
use Rattle.model.specs.Commands.{members_of, is_empty}
use Rattle.model.specs.Journal.{Grant, Journal, standing, singles, lowest}

-- an order of the members: a list that names each of them, and nobody else
abbrev pub Orders : ℕ → List ℕ → Type 0
Orders set persons = (i : ℕ) → any (eqb i) persons ≡ any (eqb i) (members_of set)

-- two journals of equal sets: 'a set of grants', whatever the order of the list
pub record SameSets (j k : Journal) : Type 0 where
  pub live : j.live ≡ k.live
  pub grants : (g : Grant) → standing j g ≡ standing k g
  pub loans : j.loans ≡ k.loans
  pub shift : j.shift ≡ k.shift

-- anything that answers commands: the number of a command in a state, and the state after it
module _ {S : Type 0} (answer : S → Command → ℕ) (next : S → Command → S) where
  -- these commands, one after another, are all accepted
  pub data Accepts : S → List Command → Type 0 where
    none : {s : S} → Accepts s []
    one : {s : S} {c : Command} {cs : List Command} → answer s c ≡ 0 → Accepts (next s c) cs → Accepts s (c ∷ cs)

  -- the state after them
  abbrev pub finally : S → List Command → S
  finally s [] = s
  finally s (c ∷ cs) = finally (next s c) cs

  -- allowset in state s; Same says when two states are one
  pub record AllowsSet (Same : S → S → Type 0) (s : S) (by set on right depth : ℕ) : Type 0 where
    -- 'the lowest refusal's number, if any of them is refused'; 0 if none is
    pub number : is_empty set ≡ false
        → answer s (AllowSet by set on right depth) ≡ lowest (map (answer s) (singles (members_of set) by on right depth))
    -- 'or nothing'
    pub nothing : (answer s (AllowSet by set on right depth) ≡ 0 → ⊥) → next s (AllowSet by set on right depth) ≡ s
    -- 'in any order': each single allow is accepted
    pub accepted : answer s (AllowSet by set on right depth) ≡ 0 → (persons : List ℕ) → Orders set persons
        → Accepts s (singles persons by on right depth)
    -- and all of them leave what allowset leaves
    pub same : answer s (AllowSet by set on right depth) ≡ 0 → (persons : List ℕ) → Orders set persons
        → Same (finally s (singles persons by on right depth)) (next s (AllowSet by set on right depth))
