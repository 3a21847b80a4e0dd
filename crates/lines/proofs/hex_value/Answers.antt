-- A digit, a letter, or neither.
use Prim.Native.Nat.{◌+◌, ◌-◌}
use mathlib.Core.Path.{◌≡◌}
use native.Mathlib.Omega.{arith}
use borrow.Author.Tests.{le-leb, lt-leb}
use Rattle.lines.specs.Reader.{hex_value_of}
use Rattle.lines.proofs.hex_value.Goals as goal

pub returns-in-48-to-57 : goal.returns-in-48-to-57
unfolding hex_value_of
returns-in-48-to-57 c = rw (c.from.ensures, le-leb 48 c.args.b (omega arith), le-leb c.args.b 57 (omega arith))

pub returns-in-97-to-102 : goal.returns-in-97-to-102
unfolding hex_value_of
returns-in-97-to-102 c =
    let e : c.from-in-97-to-102.result + 10 ≡ c.args.b - 87 = omega arith in
    rw (e, le-leb 48 c.args.b (omega arith), lt-leb c.args.b 57 (omega arith), le-leb 97 c.args.b (omega arith), le-leb c.args.b 102 (omega arith))

pub returns-in_default : goal.returns-in_default
unfolding hex_value_of
returns-in_default c = rw (lt-leb 48 c.args.b (omega arith), lt-leb 97 c.args.b (omega arith))

pub returns-in_default-2 : goal.returns-in_default-2
unfolding hex_value_of
returns-in_default-2 c = rw (le-leb 48 c.args.b (omega arith), lt-leb c.args.b 57 (omega arith), lt-leb 97 c.args.b (omega arith))

pub returns-in_default-3 : goal.returns-in_default-3
unfolding hex_value_of
returns-in_default-3 c =
    rw (
      le-leb 48 c.args.b (omega arith),
      lt-leb c.args.b 57 (omega arith),
      le-leb 97 c.args.b (omega arith),
      lt-leb c.args.b 102 (omega arith),
    )
