use native.Mathlib.Omega.{arith}
use Prim.Native.Nat.{◌^◌, ◌<◌}
use Rattle.bits.proofs.Lowest.{trailing_bit, trailing_lt, without-lowest}
use Rattle.convert.proofs.members.MembersIterator.next.Goals as goal

pub returns-clause-steps : goal.returns-clause-steps
returns-clause-steps c =
    let n = c.args.self.now.0 in
    let some : 0 < n = omega arith in
    let fits : n < 2 ^ 64 = omega arith in
    (trailing_lt 64 n some fits, trailing_bit 64 n some fits, (without-lowest 64 n some fits).0)
