use Rattle.std.proofs.Common.{◌≤◌, sym, subst}
use Rattle.gl_shards.specs.declared.shard.TheConstants.{MAX_SHARDS}
use Rattle.gl_live.proofs.Leaving.{as_long}
use Rattle.gl_live.proofs.streaming.start_collecting.Goals as goal

pub start_workers-requires-clause-fit : goal.start_workers-requires-clause-fit
start_workers-requires-clause-fit g c κs within = subst (λ n. n ≤ MAX_SHARDS) (sym (as_long _ _ c.args.inlets.items c.args.outlets.items c.requires.feeds)) c.requires.unused.shards.fit
