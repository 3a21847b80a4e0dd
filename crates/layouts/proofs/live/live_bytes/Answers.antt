use borrow.Author.Rules.{rules}
use Prim.Native.Nat.{ℕ}
use lib.ListN.{get_or}
use Rattle.bits.proofs.Made.{made_by}
use Rattle.layouts.proofs.live.live_bytes.Goals as goal

pub returns : goal.returns
returns c = made_by _ (λ (k : ℕ). get_or c.args.image.now k 0) _ 8 (λ k y h l q. search rules) c.from_fn.result 0 c.from_fn.ensures.items
