use Rattle.std.proofs.Common.{◌≡◌}
use Rattle.crossbeam_channel.specs.Claims.{view, IsSeatAt}
use Rattle.crossbeam_channel.specs.Ends.{receives_on}
use Rattle.gl_shards.proofs.worker.receive.Given as goal

-- nothing was received yet
abbrev pub invariant-loop-looks : goal.invariant-loop-looks
invariant-loop-looks g l = record {
  seat : IsSeatAt (receives_on l.fn.receiver) l.pass;
  same : view l.pass ≡ view l.fn.pass;
}
