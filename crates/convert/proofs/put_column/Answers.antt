-- At first all persons with every right are still to come (`full_open`). A turn puts one's byte in, all ones (`full_put`). Then the lists
-- are put in.
use mathlib.Core.Path.{◌≡◌, refl, ◌∙◌}
use native.Mathlib.Omega.{arith}
use Prim.Native.Nat.{◌+◌, ◌*◌}
use Rattle.convert.proofs.Turned.{left_bit, full_open, full_put, rows_close}
use Rattle.convert.proofs.put_column.Goals as goal

pub loop-p-init : goal.loop-p-init
loop-p-init c =
    rw (c.into_iter-p-iterator.ensures.into_iter_gives, c.persons_with_all-full.ensures)
    (c.requires.1 ∙ full_open c.args.source.now c.args.on, λ k b. b)

pub loop-p-preserved : goal.loop-p-preserved
loop-p-preserved c =
    let s = c.in-Some.ensures.steps in
    let z : 8 + c.args.on + 64 * c.in-Some.p ≡ 8 + 64 * c.in-Some.p + c.args.on = omega arith in (
      rw z (full_put c.args.source.now c.args.on c.in-Some.p c.loop-p.p-iterator.0 c.next.new.self.0 c.loop-p.target c.requires.0 s.0 c.loop-p.invariant.0 (c.loop-p.invariant.1 c.in-Some.p s.1) s.2),
      λ k b. c.loop-p.invariant.1 k (left_bit _ _ _ k s.2 b),
    )

pub put_lists-requires : goal.put_lists-requires
put_lists-requires c = (
  c.requires.0,
  c.persons_with_all-full.ensures,
  c.loop-p.invariant.0 ∙ rows_close c.args.source.now (9 * c.args.on) _ c.loop-p.p-iterator.0 c.in-None.ensures.steps refl,
)
