use Rattle.std.proofs.Common.{◌≡◌, ℕ, ◌<◌, length, Some}
use Rattle.std.specs.Prelude.{slice_get}
use Rattle.gl_world.specs.Dispatch.{Shard}
use Rattle.gl_world.proofs.dispatcher.are_worked.Given as goal

-- the shards so far are worked
abbrev pub invariant-loop-part : goal.invariant-loop-part
invariant-loop-part l = (k : ℕ) (shard : Shard) → k < l.part-index → slice_get l.parts k ≡ Some shard → shard.worked ≡ length shard.shipped
