-- What sweep promises, of the journal and of the chain unit: '`do=sweep by` (numbers 1 to 4) ends all loans past their last shift, closes
-- the gaps and returns how many there were.' The theorems are `journal_sweep` and `chain_sweep`; of the unit's checks `sweep_checks` and
-- `sweep_checks_now`.
use Rattle.std.specs.Prelude.{◌≡◌, not, List, ◌↔◌, ℕ, ◌+◌, ◌≤◌, length}
use Rattle.bits.specs.Sets.{keep, count}
use Rattle.model.specs.declared.Command.{Command}
use Rattle.model.specs.declared.Command.TheVariants.{Lend, Sweep}
use Rattle.model.specs.Journal.{Journal, is_past}

-- a journal at shift n, 'with all else equal'
abbrev pub at_shift : ℕ → Journal → Journal
at_shift n j = record { live = j.live; grants = j.grants; loans = j.loans; shift = n }

-- anything that answers commands: the number of a command in a state, its count and the state after it; the loans that stand in a state,
-- in their order, and the last shift of each; the present shift, and the same state at another; C has the chains of a state on an item and
-- right
module _ {S L : Type 0} (answer counted : S → Command → ℕ) (next : S → Command → S) (loans : S → List L) (last : L → ℕ) (shift : S → ℕ)
    (at : ℕ → S → S) (C : S → ℕ → ℕ → List ℕ → ℕ → ℕ → Type 0) where
  -- sweep in state s
  pub record Sweeps (s : S) (by : ℕ) : Type 0 where
    -- 'Where .. refused, whatever else it returns is 0 and every lent byte is unchanged'
    pub nothing : (answer s (Sweep by) ≡ 0 → ⊥) → (counted s (Sweep by) ≡ 0) × (next s (Sweep by) ≡ s)
    -- 'ends all loans past their last shift, closes the gaps': those after it are exactly those that are not past, in their order
    pub left : answer s (Sweep by) ≡ 0 → loans (next s (Sweep by)) ≡ keep (λ l. not (is_past (shift s) (last l))) (loans s)
    -- 'and returns how many there were'
    pub many : answer s (Sweep by) ≡ 0 → counted s (Sweep by) ≡ count (λ l. is_past (shift s) (last l)) (loans s)
    -- 'Loans before = loans after + that count'
    pub sum : length (loans s) ≡ length (loans (next s (Sweep by))) + counted s (Sweep by)
    -- the shift stays
    pub present : shift (next s (Sweep by)) ≡ shift s
    -- 'no check with all else equal, at this shift number or a higher one, changes its yes, no or depth': the chains are the same at each,
    -- and so are the greatest allowance and the fewest persons of any
    pub chains : (n : ℕ) → shift s ≤ n → (o r : ℕ) (ps : List ℕ) (p a : ℕ)
        → C (at n (next s (Sweep by))) o r ps p a ↔ C (at n s) o r ps p a
    -- a second sweep, by whomever, counts 0
    pub again : answer s (Sweep by) ≡ 0 → (other : ℕ) → counted (next s (Sweep by)) (Sweep other) ≡ 0
    -- room is there again: after a sweep that counted, a lend that got 10 is accepted
    pub room : 1 ≤ counted s (Sweep by) → (lender to on right depth until : ℕ) → answer s (Lend lender to on right depth until) ≡ 10
        → answer (next s (Sweep by)) (Lend lender to on right depth until) ≡ 0
