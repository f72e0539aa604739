use Rattle.std.proofs.Common.{rules, ltb}
use Rattle.std.proofs.lemmas.List.Sorted.{IsPartitionPoint-from_clause, IsPartitionedBy-ltb}
use Rattle.name_index.proofs.Listed.{point_by_test}
use Rattle.name_index.proofs.key_list.place_of.Goals as goal

pub returns-clause-place : goal.returns-clause-place
returns-clause-place c =
    point_by_test _ c.args.key _
    (IsPartitionPoint-from_clause (λ entry. ltb entry.key c.args.key) _ _ c.partition_point.ensures.partitioned (IsPartitionedBy-ltb (λ entry. entry.key) _ c.args.key c.requires)
    (λ a r q k. search rules))
