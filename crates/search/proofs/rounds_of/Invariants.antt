-- Rounds 0 to k are made and `top` is the person's greatest entry in them. A loan costs one, so once the greatest entry of round k
-- less one is not above `top`, no later round matters (`settled_early`); after round 7 there is none (`settled_last`). What the loans to
-- the person pass on is the person's entry of the next round (`next_entry`), all entries of which are below the greatest of round k
-- (`next_le`): so the same holds of round k + 1 where the greatest of round k less two is not above `top`.
use mathlib.Core.List.{[]}
use Prim.Native.Nat.{ℕ, ◌+◌, ◌<◌}
use lib.ListN.{length, get_or}
use Rattle.bits.specs.Sets.{most}
use Rattle.delegation.specs.Search.{round_at}
use mathlib.Core.Path.{◌≡◌}
use Rattle.search.proofs.rounds_of.Given as goal

-- rounds 0 to k are made, round 0 stands in place of the later ones, and top is the greatest entry of who so far
abbrev pub invariant-loop-k : goal.invariant-loop-k
invariant-loop-k l =
    (length l.rounds ≡ 8) × ((j : ℕ) → j < l.k + 1 → get_or l.rounds j [] ≡ round_at (get_or l.initial.rounds 0 []) l.ls j)
    × ((j : ℕ) → l.k < j → j < 8 → get_or l.rounds j [] ≡ get_or l.initial.rounds 0 [])
    × (l.top ≡ most (λ (j : ℕ). get_or (round_at (get_or l.initial.rounds 0 []) l.ls j) l.place 0) (l.k + 1))
