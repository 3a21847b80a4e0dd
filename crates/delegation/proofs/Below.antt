-- The place of a number among rising words: they are parted by lying below it.
use mathlib.Core.Path.{◌≡◌, ap}
use mathlib.Core.Bool.{true, false}
use mathlib.Core.List.{List}
use Prim.Native.Nat.{ℕ, ◌≤◌, ◌<◌}
use native.Mathlib.Omega.{arith}
use borrow.Author.Tests.{ltb-true, ltb-false, eqb-true, eqb-false}
use lib.ListN.{length, get_or}
use lib.Dec.{eqb, ltb}
use Rattle.std.specs.List.Sorted.{IsPartitionedBy, IsPartitionPoint}
use Rattle.std.proofs.lemmas.List.Sorted.{IsPartitionedBy-ltb, IsNonDecreasingBy-from_default}
use Rattle.bits.proofs.Sets.{by_cases}
use Rattle.delegation.specs.Loans.{rising}
use Rattle.delegation.specs.Below.{Below}
use Rattle.delegation.proofs.Rising.{rising-at}

-- as the library says that numbers rise
pub rising-up : (words : List ℕ) → rising words ≡ true → (i j : ℕ) → i ≤ j → j < length words → get_or words i 0 ≤ get_or words j 0
rising-up words r i j l h =
    by_cases (eqb i j) (λ t. let e = ap (λ (k : ℕ). get_or words k 0) (eqb-true i j t) in omega arith)
    (λ t. let n = eqb-false i j t in omega (arith, rising-at words r i j (omega arith) h))

pub rises_parted : (words : List ℕ) → rising words ≡ true → (x : ℕ) → IsPartitionedBy (λ w. ltb w x) words
rises_parted words r x = IsPartitionedBy-ltb (λ w. w) words x (IsNonDecreasingBy-from_default (λ w. w) words 0 (rising-up words r))

pub below_point : (words : List ℕ) (x i : ℕ) → i ≤ length words → IsPartitionPoint (λ w. ltb w x ≡ true) (λ w. ltb w x ≡ false) words i
    → Below words x i
below_point words x i b p =
    record { within = b; low = λ k l. ltb-true _ x (p.0 k 0 (omega arith) l); high = λ k l h. ltb-false _ x (p.1 k 0 l h) }
