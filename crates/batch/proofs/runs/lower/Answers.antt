use Rattle.std.proofs.Common.{rules, tests}
use Rattle.std.proofs.lemmas.List.Sorted.{IsPartitionPoint-from_clause}
use lib.Dec.{ltb}
use Rattle.batch.proofs.Halving.{lower_split, rising_split}
use Rattle.batch.proofs.runs.lower.Goals as goal

pub returns : goal.returns
returns c =
    let a = c.args in
    let p = c.partition_point.ensures in
    lower_split a.v a.tags.now c.partition_point.result p.bound (IsPartitionPoint-from_clause (λ t. ltb t a.v) a.tags.now c.partition_point.result p.partitioned (rising_split a.v a.tags.now c.requires) (λ a r f k. search (rules, tests)))
