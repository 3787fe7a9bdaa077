use Rattle.std.proofs.Common.{rules}
use Rattle.std.proofs.lemmas.List.Sorted.{IsPartitionPoint-from_clause}
use Rattle.gl_segments.specs.bodies.Histories.{is_up_to}
use Rattle.gl_segments.proofs.Bisecting.{parted}
use Rattle.gl_segments.proofs.growths.long_up_to.Goals as goal

pub returns-clause-parted : goal.returns-clause-parted
returns-clause-parted c =
    IsPartitionPoint-from_clause (is_up_to c.args.index c.args.thread) _ _ c.partition_point.ensures.partitioned (parted c.args.growths.now c.requires c.args.index c.args.thread) (λ a r q k. search rules)
