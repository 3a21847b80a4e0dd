-- After k turns the byte is the first k bytes of the row ORed (`or_more`); at the end that is all of them.
use mathlib.Core.Path.{◌≡◌}
use Prim.Native.Nat.{ℕ, ◌≤◌}
use lib.ListN.{length, get_or}
use Rattle.bits.specs.Bits.{or_below}
use Rattle.rows.proofs.scan.has_right.Given as goal

abbrev pub invariant-loop-byte : goal.invariant-loop-byte
invariant-loop-byte l = (l.byte-index ≤ length l.row) × (l.bits ≡ or_below l.byte-index (λ (k : ℕ). get_or l.row k 0))
