use Rattle.std.proofs.Common.{ap, ◌∙◌}
use Rattle.gl_event.specs.Bounds.{Bounds}
use Rattle.gl_engine.specs.Collecting.{Collecting}
use Rattle.gl_live.proofs.Opened.{opened_unused, ready}
use Rattle.gl_live.proofs.session.prepare.Goals as goal

pub returns-clause-ready : goal.returns-clause-ready
returns-clause-ready c =
    let collects = c.in_ok-recorders.ensures.collects in
    ready c.args.threads c.args.shards c.requires.some_shard c.requires.shards_fit _
    (ap (λ (y : Collecting). y.limits.threads) collects ∙ ap (λ (b : Bounds). b.threads) c.of_session-limits.ensures) (ap (λ (y : Collecting). y.limits.events) collects ∙ ap (λ (b : Bounds). b.events) c.of_session-limits.ensures)
    c.in_ok-outlets.ensures.count c.in_ok-outlets.ensures.feeds c.in_ok-outlets.ensures.unsent c.in_ok-receipts.ensures.items c.in_ok-receipts.ensures.len c.in_ok-receipts.ensures.capacity c.in_ok-served.ensures.items c.in_ok-served.ensures.len c.in_ok-served.ensures.capacity

pub returns-clause-unused : goal.returns-clause-unused
returns-clause-unused c = opened_unused _ _ c.in_ok-recorders.recorders.items c.in_ok-recorders.collector c.in_ok-recorders.ensures

pub returns-clause-threads : goal.returns-clause-threads
returns-clause-threads c = c.in_ok-recorders.ensures.count ∙ ap (λ (b : Bounds). b.threads) c.of_session-limits.ensures

pub returns-clause-sizes : goal.returns-clause-sizes
returns-clause-sizes c = record {
  lanes = ap (λ (y : Collecting). y.limits) c.in_ok-recorders.ensures.collects ∙ c.of_session-limits.ensures;
  shards = c.in_ok-outlets.ensures.count;
  feeds = c.in_ok-outlets.ensures.room;
}
