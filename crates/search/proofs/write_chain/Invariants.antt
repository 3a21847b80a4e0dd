-- The chain wanted is the one to q with k loans, and then the bytes written after place k: a turn writes q at place k and goes on with
-- its lender (`traced-step`). With no loan left q is the first person (`traced-end`); 255 stands after the last (`padding`).
use mathlib.Core.List.{◌++◌}
use mathlib.Core.Path.{◌≡◌}
use Prim.Native.Nat.{suc, ◌-◌, ◌<◌}
use lib.ListN.{length, drop, replicate}
use Rattle.delegation.specs.Search.{traced}
use Rattle.search.proofs.write_chain.Given as goal

-- the chain wanted is the one to q with k loans, and then the bytes after place k
abbrev pub invariant-loop-k : goal.invariant-loop-k
invariant-loop-k l =
    (l.k < 8) × (l.q.0 < 64) × (length l.chain ≡ 8)
    × (traced l.rounds l.ls l.at l.initial.q.0 ++ replicate (7 - l.at) 255 ≡ traced l.rounds l.ls l.k l.q.0 ++ drop (suc l.k) l.chain)
