use Rattle.std.proofs.Common.{◌≡◌, false, true, rules}
use Rattle.std.specs.Prelude.{nat_lt}
use Rattle.std.specs.List.Sorted.{IsPartitionPoint}
use Rattle.std.proofs.lemmas.List.Sorted.{IsPartitionPoint-from_clause}
use Rattle.gl_segments.specs.declared.forked.Spawn.{Spawn}
use Rattle.gl_segments.proofs.Forking.{lesser_first, starts_at}
use Rattle.gl_segments.proofs.forked.start_of.Goals as goal

pub returns-clause-parted : goal.returns-clause-parted
returns-clause-parted c =
    let xs = c.args.forks.now in
    let i = c.partition_point.result in
    let point : IsPartitionPoint (λ (s : Spawn). nat_lt s.thread c.args.thread ≡ true) (λ (s : Spawn). nat_lt s.thread c.args.thread ≡ false) xs i
    = IsPartitionPoint-from_clause (λ (s : Spawn). nat_lt s.thread c.args.thread) _ _ c.partition_point.ensures.partitioned (lesser_first xs c.args.thread c.requires) (λ a r q k. search rules) in
    starts_at xs c.args.thread i point
