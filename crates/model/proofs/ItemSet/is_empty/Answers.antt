-- Only 0 has no member (`none-zero`).
use Rattle.bits.proofs.Members.{none-zero}
use Rattle.std.proofs.Common.{rules}
use Rattle.model.proofs.ItemSet.is_empty.Goals as goal

pub returns : goal.returns
returns c = none-zero 64 c.args.self.0 (search rules)
