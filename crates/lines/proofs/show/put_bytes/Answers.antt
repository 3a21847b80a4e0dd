-- The part is copied over the buffer's from the place on (`put_sets`).
use native.Mathlib.Omega.{arith}
use mathlib.Core.Path.{◌≡◌, refl}
use Prim.Native.Nat.{◌+◌, ◌-◌}
use lib.ListN.{length}
use Rattle.lines.proofs.Chunks.{put_sets}
use Rattle.lines.proofs.show.put_bytes.Goals as goal

pub returns : goal.returns
returns c =
    let e : c.args.at + length c.args.part.now - c.args.at ≡ length c.args.part.now = omega arith in
    record { place = refl; buffer = rw (c.copy_from_slice.ensures.after, e) (put_sets c.args.buf.now c.args.part.now c.args.at (omega arith)) }
