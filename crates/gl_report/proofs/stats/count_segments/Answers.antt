use Rattle.std.proofs.Common.{◌+◌, ◌∙◌, ap, arith}
use Rattle.gl_event.specs.Events.{segment}
use Rattle.gl_report.proofs.Counting.{within_sum, term_within}
use Rattle.gl_report.proofs.stats.count_segments.Goals as goal

pub segments_in-count-requires : goal.segments_in-count-requires
segments_in-count-requires c =
    term_within (λ es. segment es + 1) (λ v. v.items) c.args.lists.now c.loop-list.list-index c.list-item.result _ _ c.loop-list-test.true c.list-item.is (ap (λ es. segment es + 1) c.as_slice.ensures.value) c.requires

pub overflow_add-count : goal.overflow_add-count
overflow_add-count c =
    let small = within_sum (λ es. segment es + 1) (λ v. v.items) c.args.lists.now c.loop-list.list-index c.list-item.result c.loop-list.count _ _ c.loop-list-test.true c.list-item.is c.loop-list.invariant (c.segments_in-count.ensures ∙ ap (λ es. segment es + 1) c.as_slice.ensures.value) c.requires in
    omega arith
