-- The tickets for that item and right are those with their key (`keys_code`).
use mathlib.Core.Path.{ap, ◌∙◌}
use Prim.Native.Nat.{ℕ}
use native.Mathlib.Omega.{arith}
use lib.ListN.{drop}
use Rattle.bits.specs.Sets.{any}
use Rattle.ticketing.specs.Image.{machine_of, from}
use Rattle.tickets.specs.Places.{held_for}
use Rattle.tickets.proofs.Fields.{keys_code}
use Rattle.tickets.proofs.is_holder.Goals as goal

pub returns : goal.returns
unfolding machine_of from
returns c =
    c.holds_key.ensures ∙ ap (λ (k : ℕ). any (held_for c.args.who.0 k) (machine_of c.args.image.now).records) c.key_of.ensures
    ∙ keys_code (drop 2 c.args.image.now) c.args.who.0 c.args.on.0 c.args.right.0 (omega arith)
