use Rattle.std.proofs.Common.{rules}
use Rattle.std.specs.Prelude.{map}
use Rattle.std.proofs.lemmas.List.Sorted.{IsPartitionPoint-from_clause}
use Rattle.gl_segments.specs.bodies.Growths.{long}
use Rattle.gl_segments.specs.bodies.Histories.{is_up_to}
use Rattle.gl_segments.proofs.Bisecting.{parted}
use Rattle.gl_segments.proofs.Shortening.{parted_short, point_long}
use Rattle.gl_segments.proofs.growths.short_up_to.Goals as goal

pub returns-clause-parted : goal.returns-clause-parted
returns-clause-parted c =
    let gs = c.args.growths.now in
    let up_to = is_up_to c.args.index c.args.thread in
    point_long up_to gs c.partition_point.result c.partition_point.ensures.bound
    (IsPartitionPoint-from_clause (λ s. up_to (long s)) _ _ c.partition_point.ensures.partitioned (parted_short up_to gs (parted (map long gs) c.requires c.args.index c.args.thread)) (λ a r q k. search rules))
