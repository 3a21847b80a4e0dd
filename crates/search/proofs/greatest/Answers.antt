-- The greatest entry, from the front, is the greatest of all (`fold-most`).
use Rattle.std.proofs.Common.{rules}
use native.Mathlib.Omega.{arith}
use mathlib.Core.Path.{◌≡◌, ap}
use Prim.Native.Nat.{ℕ, max}
use lib.ListN.{get_or}
use Rattle.bits.specs.Sets.{most}
use Rattle.std.specs.List.{fold}
use Rattle.search.proofs.Rounds.{fold-most}
use Rattle.search.proofs.greatest.Goals as goal

pub returns : goal.returns
returns c =
    let f : c.fold.result ≡ fold (λ a x. max a x) 0 c.args.round.now = search rules in
    let m = fold-most 0 c.args.round.now in
    let e = ap (most (λ (p : ℕ). get_or c.args.round.now p 0)) c.told-round in
    omega (arith, f, m, e)
