-- The bytes before the first byte 10 are those before its place (`newline-place`).
use native.Mathlib.Omega.{arith}
use mathlib.Core.Path.{◌≡◌, ◌∙◌}
use lib.ListN.{length}
use Rattle.lines.specs.Collect.{before_newline}
use Rattle.lines.proofs.Chunks.{before_length, newline-place}
use Rattle.lines.proofs.collect.line_end.Goals as goal

pub returns : goal.returns
returns c =
    let e : c.unwrap_or.result ≡ length (before_newline c.args.s.now) =
    c.unwrap_or.ensures ∙ rw c.newline.ensures (newline-place c.args.s.now) in
    (e, omega (arith, e, before_length c.args.s.now))
