-- Rising words are parted by `< x` (`rises_parted`), so the point of the partition is their place (`below_point`).
use Rattle.std.proofs.Common.{rules}
use Rattle.std.proofs.lemmas.List.Sorted.{IsPartitionPoint-from_clause}
use lib.Dec.{ltb}
use Rattle.delegation.proofs.Below.{rises_parted, below_point}
use Rattle.delegation.proofs.halving.below.Goals as goal

pub returns : goal.returns
returns c =
    below_point c.args.words.now c.args.x _ c.partition_point.ensures.bound
    (IsPartitionPoint-from_clause (λ w. ltb w c.args.x) _ _ c.partition_point.ensures.partitioned (rises_parted c.args.words.now c.requires c.args.x) (λ a r f k. search rules))
