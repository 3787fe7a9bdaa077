use Rattle.gl_world.proofs.Dispatching.{tabled_new}
use Rattle.gl_world.proofs.shard_part.ShardPart.new.Goals as goal

pub invariant_of-result : goal.invariant_of-result
invariant_of-result c = tabled_new _ _ c.new.ensures.items c.new-2.ensures
