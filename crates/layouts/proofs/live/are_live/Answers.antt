-- The empty set has no member that could be dead (`none-dead`). Another has none where it lies within the live set.
use native.Mathlib.Omega.{arith}
use mathlib.Core.Path.{◌≡◌, refl, sym, ap, ◌∙◌}
use mathlib.Core.Bool.{Bool, true, not, ◌||◌, false≢true}
use mathlib.Core.List.{List, [], ◌∷◌}
use Prim.Native.Nat.{ℕ, suc}
use lib.ListN.{length}
use borrow.Author.Tests.{ne_eqb}
use lib.Dec.{eqb}
use Rattle.bits.specs.Sets.{all, all_below}
use Rattle.model.specs.Commands.{members_of}
use Rattle.bits.specs.Bits.{bit, of_bits}
use Rattle.bits.specs.Cells.{at}
use Rattle.bits.proofs.Indexed.{below_ext}
use Rattle.bits.proofs.Bits.{within, machine_outside, of_bits_lt, bit-of_bits}
use Rattle.bits.proofs.Members.{all-members}
use Rattle.layouts.proofs.live.are_live.Goals as goal

none-dead : (p : ℕ → Bool) (is : List ℕ) → eqb (length is) 0 ≡ true → all p is ≡ true
unfolding all
none-dead p [] e = refl
none-dead p (i ∷ is) e = absurd (false≢true (sym (ne_eqb (suc (length is)) 0 (λ z. omega arith)) ∙ e))

lies_within : (n : ℕ) (p : ℕ → Bool) → within 64 n (of_bits 64 p) ≡ all_below 64 (λ i. not (bit n i) || p i)
unfolding within
lies_within n p = below_ext 64 _ _ (λ i h. ap (λ b. not (bit n i) || b) (bit-of_bits 64 p i h))

pub returns-then-is_empty : goal.returns-then-is_empty
returns-then-is_empty c =
    c.if-is_empty.true ∙ sym (none-dead (at 8 c.args.image.now) (members_of c.args.set.0) (sym c.is_empty.ensures ∙ c.if-is_empty.true))

pub returns-else-is_empty : goal.returns-else-is_empty
returns-else-is_empty c =
    let p = at 8 c.args.image.now in
    rw (c.number.ensures, c.live_set.ensures)
    (machine_outside 64 c.args.set.0 (of_bits 64 p) (of_bits_lt 64 p) ∙ lies_within c.args.set.0 p ∙ sym (all-members 64 c.args.set.0 p))
