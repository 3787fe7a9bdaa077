use Rattle.std.proofs.Common.{nat_lt, rules}
use Rattle.std.proofs.lemmas.List.Sorted.{IsPartitionPoint-from_clause, IsPartitionedBy-ltb}
use Rattle.gl_grounds.proofs.spans.count_below.Goals as goal

pub returns-clause-parted : goal.returns-clause-parted
returns-clause-parted c =
    IsPartitionPoint-from_clause (λ span. nat_lt span.class c.args.class) _ _ c.partition_point.ensures.partitioned (IsPartitionedBy-ltb (λ span. span.class) _ c.args.class c.requires) (λ a r q k. search rules)
