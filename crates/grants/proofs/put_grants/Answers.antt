-- A place in the grants is byte 8 + 512 * item + 64 * right + person, bit depth: the bytes of one item and right stand side by side
-- (`allow-set-each`).
use Prim.Native.Nat.{◌+◌, ◌*◌, ◌%◌}
use native.Mathlib.Omega.{arith}
use mathlib.Core.Path.{◌≡◌, ◌∙◌}
use Rattle.layouts.specs.Layouts.{grant_bytes}
use Rattle.layouts.proofs.Layouts.{bytes_laws}
use Rattle.layouts.proofs.SetEdits.{allow-set-each}
use Rattle.grants.proofs.put_grants.Goals as goal

pub returns : goal.returns
unfolding grant_bytes
returns c =
    let e : c.place-at.result ≡ 8 + (512 * c.args.on.0 + 64 * c.args.right.0)
    = omega (arith, c.place-at.ensures.0, c.root.ensures) in
    c.set_each.ensures
    ∙ rw (c.number-2.ensures, c.number.ensures, e)
    (allow-set-each grant_bytes bytes_laws c.args.grants.now c.requires.0 (λ i b. omega (arith, c.slice_known-1.given i))
    c.args.set.0 c.args.on.0 c.args.right.0 c.args.depth.0 (8 + (512 * c.args.on.0 + 64 * c.args.right.0)) 1 (c.args.depth.0 % 8) (omega arith) (λ p b. omega arith))
