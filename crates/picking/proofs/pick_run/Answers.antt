-- Behind what was there before stand the loans of the key among those of the blocks so far; each block puts those of 16 more there, and
-- the part after the last block the rest (`appended_more`).
use borrow.Author.Rules.{rules}
use native.Mathlib.Omega.{arith}
use mathlib.Core.Path.{◌≡◌, refl, sym, ap, ◌∙◌}
use Prim.Native.Nat.{ℕ, ◌+◌, ◌-◌, ◌*◌, ◌/◌}
use lib.ListN.{length, get_or, take, drop, length-take, length-drop}
use lib.Seq.{take_all}
use mathlib.Core.List.{List, [], ◌++◌, append-nil}
use Rattle.bits.specs.Sets.{keep}
use Rattle.picking.specs.Runs.{of_key}
use Rattle.picking.proofs.Runs.{appended_more}
use Rattle.delegation.proofs.Chunks.{chunk_at}
use Rattle.picking.proofs.pick_run.Goals as goal

pub loop-block-init : goal.loop-block-init
unfolding keep
loop-block-init c = (refl, search rules, sym (append-nil _))

-- a block is 16 loans of those that are left
pub pick_block-m-requires : goal.pick_block-m-requires
pick_block-m-requires c =
    let b = c.as_chunks.ensures.front_len in
    let e : get_or c.as_chunks.result.0.now c.loop-block.block-index [] ≡ take 16 (drop (c.loop-block.block-index * 16) c.args.loans.now)
    = rw c.as_chunks.ensures.front (chunk_at 16 (length c.args.loans.now / 16) c.args.loans.now c.loop-block.block-index (omega arith)) in
    rw e (simp (length-take, length-drop) (omega arith))

pub loop-block-preserved : goal.loop-block-preserved
loop-block-preserved c =
    let b = c.as_chunks.ensures.front_len in
    let k : (c.loop-block.block-index + 1) * 16 ≡ c.loop-block.block-index * 16 + 16 = omega arith in
    let e : get_or c.as_chunks.result.0.now c.loop-block.block-index [] ≡ take 16 (drop (c.loop-block.block-index * 16) c.args.loans.now)
    = rw c.as_chunks.ensures.front (chunk_at 16 (length c.args.loans.now / 16) c.args.loans.now c.loop-block.block-index (omega arith)) in
    let a = rw e at c.pick_block-m.ensures in
    let r = appended_more c.args.out.now c.loop-block.out c.pick_block-m.new.out c.args.loans.now c.args.m c.args.key c.loop-block.m
    c.pick_block-m.result (c.loop-block.block-index * 16) 16 (omega arith) c.loop-block.invariant.1 c.loop-block.invariant.2 a in
    rw k (search rules, r.0, r.1)

pub returns : goal.returns
returns c =
    let n = length c.args.loans.now in
    let b = c.as_chunks.ensures.front_len in
    let q : c.loop-block.block-index * 16 ≡ n / 16 * 16 = omega arith in
    let i = rw q at c.loop-block.invariant in
    let d : take (n - n / 16 * 16) (drop (n / 16 * 16) c.args.loans.now) ≡ c.as_chunks.result.1.now
    = take_all (n - n / 16 * 16) (drop (n / 16 * 16) c.args.loans.now) (simp length-drop (omega arith)) ∙ sym c.as_chunks.ensures.back in
    let m : n / 16 * 16 + (n - n / 16 * 16) ≡ n = omega arith in
    let r = appended_more c.args.out.now c.loop-block.out c.pick_part.new.out c.args.loans.now c.args.m c.args.key c.loop-block.m
    c.pick_part.result (n / 16 * 16) (n - n / 16 * 16) (omega arith) i.1 i.2 (rw d c.pick_part.ensures) in
    record {
      count = omega (arith, r.0);
      are = r.1 ∙ ap (λ (k : ℕ). take c.args.m c.args.out.now ++ keep (of_key c.args.key) (take k c.args.loans.now)) m
          ∙ ap (λ (x : List ℕ). take c.args.m c.args.out.now ++ keep (of_key c.args.key) x) (take_all n c.args.loans.now (omega arith));
    }
