use Rattle.std.proofs.Common.{ap, subst}
use mathlib.Core.List.{IsPrefix}
use Rattle.crossbeam_channel.specs.Claims.{view}
use Rattle.gl_shards.specs.Feeds.{received_by}
use Rattle.gl_shards.proofs.InOrder.{merges, learns}
use Rattle.gl_shards.proofs.Messages.{begins_sent}
use Rattle.gl_shards.proofs.worker.Served.settle.Goals as goal

pub absorb-requires-clause-rule : goal.absorb-requires-clause-rule
absorb-requires-clause-rule c = merges _ _ _ _ c.sent.invariant.is_sender.sends c.self.invariant.receives

pub learn_as-requires-clause-rule : goal.learn_as-requires-clause-rule
learn_as-requires-clause-rule c = learns _ _ (ap (λ known. known.sends) c.absorb.ensures.rule) (ap (λ known. known.receives) c.absorb.ensures.rule)

pub returns-then-cut-clause-received : goal.returns-then-cut-clause-received
returns-then-cut-clause-received c =
    subst (λ worker. IsPrefix worker.received c.args.sent.sent) c.self.view_is
    (subst (λ sent. IsPrefix (received_by c.self.inside.pass) sent.sent) c.sent.view_is
    (begins_sent (view c.sent.inside.pass).sent (view c.self.inside.pass).received (view c.absorb.new.pass) c.absorb.ensures.rule c.learn_as.ensures.rule))
