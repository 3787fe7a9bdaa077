use Rattle.std.proofs.Common.{ap, ◌∙◌}
use Rattle.gl_shards.proofs.InOrder.{receives}
use Rattle.gl_shards.proofs.worker.receive.Goals as goal

pub try_recv_as-requires-clause-rule : goal.try_recv_as-requires-clause-rule
try_recv_as-requires-clause-rule g c = (receives _ _ (ap (λ known. known.receives) c.loop-looks.invariant.same ∙ c.requires.receives), λ messages passes kept at. tt)

pub recv_as-requires-clause-rule : goal.recv_as-requires-clause-rule
recv_as-requires-clause-rule g c = (receives _ _ (ap (λ known. known.receives) c.loop-looks.invariant.same ∙ c.requires.receives), λ messages passes kept at. tt)
