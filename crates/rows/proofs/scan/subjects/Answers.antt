-- After n turns the word has, of the first n persons, the bits of those who hold a right (`bits_step`); at the end n is 64.
use mathlib.Core.Path.{◌≡◌, refl}
use Prim.Native.Nat.{◌%◌}
use native.Mathlib.Omega.{arith}
use borrow.Author.Rules.{rules}
use Rattle.bits.specs.Bits.{of_bits}
use Rattle.layouts.specs.Subjects.{subjects_of, is_subject}
use Rattle.layouts.specs.Layouts.{rows}
use Rattle.bits.proofs.Bits.{bits_step}
use Rattle.rows.proofs.scan.subjects.Goals as goal

pub loop-who-init : goal.loop-who-init
unfolding of_bits
loop-who-init c = (search rules, refl)

pub loop-who-preserved : goal.loop-who-preserved
loop-who-preserved c = (
  search rules,
  bits_step c.loop-who.set _ c.loop-who.who _ _ (is_subject rows c.args.image.now)
      c.loop-who.invariant.1 (let e : c.loop-who.who % 64 ≡ c.loop-who.who = omega arith in e) c.holds_any.ensures c.with_if-set.ensures,
)

pub returns : goal.returns
unfolding subjects_of
returns c =
    let e : c.loop-who.who ≡ 64 = omega arith in
    rw e at c.loop-who.invariant.1
