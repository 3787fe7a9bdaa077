use Rattle.std.proofs.Common.{◌≡◌, replicate}
use Rattle.gl_world.specs.Dispatch.{fresh_shard}
use Rattle.gl_world.proofs.dispatcher.fresh_parts.Given as goal

-- each shard so far is one to which nothing was shipped
abbrev pub invariant-loop-shard : goal.invariant-loop-shard
invariant-loop-shard l = l.parts.items ≡ replicate l._shard fresh_shard
