use Rattle.std.proofs.Common.{arith}
use Rattle.gl_report.proofs.Counting.{none_closed, segments_more, segments_within}
use Rattle.gl_report.proofs.stats.segments_in.Goals as goal

pub loop-event-init : goal.loop-event-init
loop-event-init c = none_closed

pub overflow_add-count : goal.overflow_add-count
overflow_add-count c =
    let small = segments_within c.args.list.now c.loop-event.event-index c.event-item.result _ _ _ c.loop-event-test.true c.event-item.is c.loop-event.invariant _ c.from-count.ensures c.closes.ensures c.requires in
    omega arith

pub loop-event-preserved : goal.loop-event-preserved
loop-event-preserved c =
    segments_more c.args.list.now c.loop-event.event-index c.event-item.result _ _ c.loop-event-test.true c.event-item.is c.loop-event.invariant _ c.from-count.ensures c.closes.ensures
