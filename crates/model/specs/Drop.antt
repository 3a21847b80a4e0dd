-- What drop and withdraw promise, of the journal and of the chain unit: 'withdraw is split: `drop` (by, to, on, right, depth) ends one
-- grant, and withdraw is eight drops, checked once before the first and done as one. drop has withdraw's refusals and 3 for the depth.'
-- The theorems are `journal_drop` and `chain-drop`. What becomes of loans is in Ending.
use Rattle.std.specs.Prelude.{◌≡◌, Bool, true, false, not, ◌&&◌, List, map, ◌↔◌, ℕ, ◌≤◌, eqb, leb}
use Rattle.bits.specs.Sets.{any, all}
use Rattle.model.specs.declared.Command.{Command}
use Rattle.model.specs.declared.Command.TheVariants.{Withdraw, Drop}
use Rattle.model.specs.Journal.{Grant, grant, same_grant, of_each_depth}
use Rattle.model.specs.Invariant.{ranged}
use Rattle.model.specs.AllowSet.{Accepts, finally}

-- d is the greatest depth of p's grants on o, right r, where `stands` says which grants there are
pub record GreatestDepth (stands : Grant → Bool) (p o r d : ℕ) : Type 0 where
  pub within : d ≤ 7
  pub standing : stands (grant p o r d) ≡ true
  pub most : (e : ℕ) → e ≤ 7 → stands (grant p o r e) ≡ true → e ≤ d

-- a grant and who drops it
pub record Dropping : Type 0 where
  pub by : ℕ
  pub ended : Grant

-- as a command
abbrev pub drop_of : Dropping → Command
drop_of d = Drop d.by d.ended.person d.ended.item d.ended.right d.ended.depth

-- two lists name the same grants, in whatever order
abbrev pub SameGrants : List Grant → List Grant → Type 0
SameGrants gs hs = (g : Grant) → any (same_grant g) gs ≡ any (same_grant g) hs

-- the grants of some drops
abbrev pub grants_in : List Dropping → List Grant
grants_in ds = map (λ d. d.ended) ds

-- anything that answers commands: the number of a command in a state, the state after it, the grants that stand in it, and a number
-- behind numbers 1 and 2
module _ {S : Type 0} (answer : S → Command → ℕ) (next : S → Command → S) (stands : S → Grant → Bool) (guard : S → ℕ → ℕ) where
  -- drop in state s
  pub record Drops (s : S) (by to on right depth : ℕ) : Type 0 where
    -- 'withdraw's refusals': within the depths the number is withdraw's
    pub number : depth ≤ 7 → answer s (Drop by to on right depth) ≡ answer s (Withdraw by to on right)
    -- 'and 3 for the depth'
    pub beyond : (depth ≤ 7 → ⊥) → answer s (Drop by to on right depth) ≡ guard s 3
    -- a refused one changes nothing
    pub nothing : (answer s (Drop by to on right depth) ≡ 0 → ⊥) → next s (Drop by to on right depth) ≡ s
    -- 'ends one grant': that one, and no other
    pub ends : answer s (Drop by to on right depth) ≡ 0 → (g : Grant) → ranged g ≡ true
        → stands (next s (Drop by to on right depth)) g ≡ stands s g && not (same_grant (grant to on right depth) g)
    -- then the greatest depth there is the greatest that still stands
    pub greatest : answer s (Drop by to on right depth) ≡ 0 → (d : ℕ)
        → GreatestDepth (stands (next s (Drop by to on right depth))) to on right d
        ↔ GreatestDepth (λ g. stands s g && not (eqb g.depth depth)) to on right d
    -- a drop of the only depth leaves what withdraw leaves
    pub closes : answer s (Drop by to on right depth) ≡ 0 → ((e : ℕ) → e ≤ 7 → stands s (grant to on right e) ≡ true → e ≡ depth)
        → next s (Drop by to on right depth) ≡ next s (Withdraw by to on right)

  -- withdraw in state s
  pub record Withdraws (s : S) (by to on right : ℕ) : Type 0 where
    -- 'withdraw is eight drops': those of each depth, by whomever and in whatever order, leave what withdraw leaves
    pub eight : answer s (Withdraw by to on right) ≡ 0 → (ds : List Dropping) → SameGrants (grants_in ds) (of_each_depth to on right)
        → Accepts answer next s (map drop_of ds) → finally answer next s (map drop_of ds) ≡ next s (Withdraw by to on right)
    -- 'checked once before the first': checked each, drops are accepted too, unless they may take by's own edit grant on the item
    pub each : answer s (Withdraw by to on right) ≡ 0 → eqb by to && eqb right 0 ≡ false → (ds : List ℕ) → all (λ d. leb d 7) ds ≡ true
        → Accepts answer next s (map (λ d. Drop by to on right d) ds)

  -- drops commute: where each is accepted, their order does not show
  abbrev pub DropsCommute : S → Type 0
  DropsCommute s = (ds es : List Dropping) → SameGrants (grants_in ds) (grants_in es) → Accepts answer next s (map drop_of ds)
      → Accepts answer next s (map drop_of es)
      → finally answer next s (map drop_of ds) ≡ finally answer next s (map drop_of es)
