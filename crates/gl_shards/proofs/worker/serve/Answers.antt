use Rattle.std.proofs.Common.{ap, ◌∙◌}
use Rattle.gl_shards.proofs.Serving.{same_feed, starts, goes_on, ends}
use Rattle.gl_shards.proofs.worker.serve.Goals as goal

pub loop-init : goal.loop-init
loop-init g c = (starts c.inlet.inside.receiver c.inlet.inside.pass c.new.result c.inlet.invariant c.new.ensures, ap (λ inlet. inlet.feed) c.inlet.view_is)

pub loop-preserved : goal.loop-preserved
loop-preserved g c =
    let seat = c.receive.ensures.seat in (
      goes_on c.inlet.inside.receiver c.loop.pass c.receive.new.pass c.loop.table c.with_edge-table.result c.in-Ok-Pair.field-0
          (c.in-Ok-Pair.edge, c.in-Ok-Pair.sample) c.loop.invariant.0 seat c.in-Ok-Pair.ensures.received c.in-Ok-Pair.field-0-is c.with_edge-table.ensures,
      same_feed c.inlet.inside.receiver c.loop.pass c.receive.new.pass c.loop.invariant.0.seat seat ∙ c.loop.invariant.1,
    )

pub invariant_of-result : goal.invariant_of-result
invariant_of-result g c =
    ends c.inlet.inside.receiver c.loop.pass c.receive.new.pass c.loop.table c.in-Ok-Ended.field-0 c.loop.invariant.0 c.receive.ensures.seat
    c.in-Ok-Ended.ensures.received c.in-Ok-Ended.field-0-is
