use Rattle.std.proofs.Common.{◌≡◌}
use Rattle.crossbeam_channel.specs.Claims.{view, IsSeatAt}
use Rattle.crossbeam_channel.specs.Ends.{sends_on}
use Rattle.gl_shards.proofs.ends.send_message.Given as goal

-- nothing was sent yet
abbrev pub invariant-loop-looks : goal.invariant-loop-looks
invariant-loop-looks g l = record {
  seat : IsSeatAt (sends_on l.fn.sender) l.pass;
  same : view l.pass ≡ view l.fn.pass;
  message : l.message ≡ l.fn.message;
}
