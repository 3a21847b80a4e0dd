use Prim.Native.Nat.{◌%◌, ◌<◌, ◌≤◌}
use native.Mathlib.Omega.{arith}
use Rattle.bits.proofs.Bits.{machine_with, with_lt}
use Rattle.bits.proofs.word.Word.with.Goals as goal

pub returns : goal.returns
returns g c =
    let e = c.WIDTH.ensures in
    let some : 0 < g.Self.Word.WIDTH = g.met.Self.Word.some in
    let fits : g.Self.Word.WIDTH ≤ 64 = g.met.Self.Word.fits in
    let within : c.args.i % g.Self.Word.WIDTH < g.Self.Word.WIDTH = omega arith in
    let same = machine_with 64 (g.Self.Word.value c.args.self) (c.args.i % g.Self.Word.WIDTH) (omega arith) in
    rw (c.widen.ensures.0, e, same) at c.narrow.ensures (with_lt g.Self.Word.WIDTH _ _ (rw c.widen.ensures.0 at c.widen.ensures.1) within)
