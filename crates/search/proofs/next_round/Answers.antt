-- After each four every entry is the greatest that the loans so far pass on (`raise_part`); after those that are left of the last four
-- that is all loans.
use native.Mathlib.Omega.{arith}
use mathlib.Core.Path.{◌≡◌, refl, sym, ap, ◌∙◌}
use mathlib.Core.List.{[]}
use Prim.Native.Nat.{◌+◌, ◌-◌, ◌*◌, ◌/◌}
use lib.ListN.{length, get_or, take, drop, get_or-replicate, length-drop}
use lib.Seq.{take_all}
use Rattle.bits.specs.Sets.{most}
use Rattle.bits.proofs.Indexed.{tabulate_ext}
use Rattle.delegation.specs.Search.{arriving, next_round}
use Rattle.delegation.proofs.Chunks.{chunk_at}
use Rattle.search.specs.Raised.{Raised}
use Rattle.search.proofs.Rounds.{raise_part}
use Rattle.search.proofs.next_round.Goals as goal

pub loop-four-init : goal.loop-four-init
unfolding most
loop-four-init c = (refl, λ q h. get_or-replicate 64 q 0 0 h)

pub loop-four-preserved : goal.loop-four-preserved
loop-four-preserved c =
    let i = c.loop-four.four-index in
    let b = c.as_chunks.ensures.front_len in
    let e : get_or c.as_chunks.result.0.now i [] ≡ take 4 (drop (i * 4) c.args.ls.now)
    = rw c.as_chunks.ensures.front (chunk_at 4 (length c.args.ls.now / 4) c.args.ls.now i (omega arith)) in
    let r : Raised c.loop-four.next (take 4 (drop (i * 4) c.args.ls.now)) c.args.round.now c.raise_block.new.next = rw (sym e) c.raise_block.ensures in
    let k : (i + 1) * 4 ≡ i * 4 + 4 = omega arith in (
      r.long ∙ c.loop-four.invariant.0,
      λ q h. raise_part c.args.ls.now c.args.round.now q (i * 4) 4 (omega arith) (get_or c.loop-four.next q 0) _ (c.loop-four.invariant.1 q h)
          (r.entries q h) ∙ ap (most (arriving c.args.ls.now c.args.round.now q)) (sym k),
    )

pub returns : goal.returns
unfolding next_round
returns c =
    let n = length c.args.ls.now in
    let b = c.as_chunks.ensures.front_len in
    let m : c.loop-four.four-index * 4 ≡ n / 4 * 4 = omega arith in
    let d : take (n - n / 4 * 4) (drop (n / 4 * 4) c.args.ls.now) ≡ c.as_chunks.result.1.now
    = take_all (n - n / 4 * 4) (drop (n / 4 * 4) c.args.ls.now) (simp length-drop (omega arith)) ∙ sym c.as_chunks.ensures.back in
    let r : Raised c.loop-four.next (take (n - n / 4 * 4) (drop (n / 4 * 4) c.args.ls.now)) c.args.round.now c.raise_each.new.next = rw d c.raise_each.ensures in
    let e : n / 4 * 4 + (n - n / 4 * 4) ≡ n = omega arith in
    tabulate_ext 64 _ 0 c.raise_each.new.next (r.long ∙ c.loop-four.invariant.0)
    (λ q h. raise_part c.args.ls.now c.args.round.now q (n / 4 * 4) (n - n / 4 * 4) (omega arith) (get_or c.loop-four.next q 0) _
    (c.loop-four.invariant.1 q h ∙ ap (most (arriving c.args.ls.now c.args.round.now q)) m) (r.entries q h)
    ∙ ap (most (arriving c.args.ls.now c.args.round.now q)) e)
