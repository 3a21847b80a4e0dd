-- What becomes of loans where grants end, of the journal and of the chain unit: 'a right given back starts clean. From now on, when a
-- person's last grant on an item and right ends by withdraw or drop, the loans that person made there end too; loans further down stay.'
-- The theorems are `journal_ends-loans`, `journal_gains_nobody` and `allow-after-withdraw`, `chain-ends-loans` and `chain_gains_nobody`.
use Rattle.std.specs.Prelude.{◌≡◌, Bool, true, false, not, ◌&&◌, List, ℕ}
use Rattle.bits.specs.Sets.{any}
use Rattle.model.specs.declared.Command.{Command}
use Rattle.model.specs.declared.Command.TheVariants.{Withdraw, Drop}
use Rattle.model.specs.Commands.{depths}
use Rattle.model.specs.Journal.{Grant, Loan, Journal, grant, is_from, granted, lends_from}
use Rattle.model.specs.Invariant.{ranged_loan}
use Rattle.model.specs.AllowSet.{finally}
use Rattle.model.specs.Chain.{JournalChain}

-- anything that answers commands: the number of a command in a state, the state after it, and the grants and loans that stand in it
module _ {S : Type 0} (answer : S → Command → ℕ) (next : S → Command → S) (stands : S → Grant → Bool) (lent : S → Loan → Bool) where
  -- p has a grant on o, right r
  abbrev pub holding : S → ℕ → ℕ → ℕ → Bool
  holding s p o r = any (λ d. stands s (grant p o r d)) depths

  -- 'starts clean': after s and any commands none of which is a new lend of p's on o, right r, no loan of p's stands there
  abbrev pub StaysClean : S → ℕ → ℕ → ℕ → Type 0
  StaysClean s p o r = (cs : List Command) → any (lends_from p o r) cs ≡ false → (l : Loan) → ranged_loan l ≡ true → is_from p o r l ≡ true
      → lent (finally answer next s cs) l ≡ false

  -- withdraw and drop in state s, of a person on an item and right
  pub record EndsLoans (s : S) (by to on right : ℕ) : Type 0 where
    -- where that person has a grant there, withdraw ends every loan that the person made there; where not, none. It ends no other loan
    pub withdraw : answer s (Withdraw by to on right) ≡ 0 → (l : Loan) → ranged_loan l ≡ true
        → lent (next s (Withdraw by to on right)) l ≡ lent s l && not (holding s to on right && is_from to on right l)
    -- the same of a drop, where it leaves that person no grant there
    pub drop : (depth : ℕ) → answer s (Drop by to on right depth) ≡ 0 → (l : Loan) → ranged_loan l ≡ true
        → lent (next s (Drop by to on right depth)) l
        ≡ lent s l
        && not ((holding s to on right && not (holding (next s (Drop by to on right depth)) to on right)) && is_from to on right l)
    -- 'a right given back starts clean', whatever happens later
    pub withdraw_clean : answer s (Withdraw by to on right) ≡ 0 → holding s to on right ≡ true
        → StaysClean (next s (Withdraw by to on right)) to on right
    -- and by drop
    pub drop_clean : (depth : ℕ) → answer s (Drop by to on right depth) ≡ 0 → holding s to on right ≡ true
        → holding (next s (Drop by to on right depth)) to on right ≡ false → StaysClean (next s (Drop by to on right depth)) to on right

-- Nobody goes from no to yes by a withdraw or drop, and nobody's depth rises: each chain after it was one before. C has the chains of a
-- state on an item and right
pub record GainsNobody {S : Type 0} (next : S → Command → S) (C : S → ℕ → ℕ → List ℕ → ℕ → ℕ → Type 0) (s : S) : Type 0 where
  pub withdraw : (by to on right o r : ℕ) {ps : List ℕ} {p a : ℕ} → C (next s (Withdraw by to on right)) o r ps p a → C s o r ps p a
  pub drop : (by to on right depth o r : ℕ) {ps : List ℕ} {p a : ℕ} → C (next s (Drop by to on right depth)) o r ps p a → C s o r ps p a

-- A new grant to p on o, right r, in journal j opens to p alone: each chain to another was one before. So 'a right given back starts
-- clean': one new allow brings no loan back
abbrev pub OpensToOne : Journal → ℕ → ℕ → ℕ → ℕ → Type 0
OpensToOne j p o r d = (ps : List ℕ) (q a : ℕ) → JournalChain (granted j (grant p o r d)) o r ps q a → (q ≡ p → ⊥)
    → JournalChain j o r ps q a
