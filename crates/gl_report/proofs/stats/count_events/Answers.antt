use Rattle.std.proofs.Common.{◌≡◌, length, arith}
use Rattle.gl_report.proofs.Counting.{within_sum}
use Rattle.gl_report.proofs.stats.count_events.Goals as goal

pub overflow_add-count : goal.overflow_add-count
overflow_add-count c =
    let same : c.len.result ≡ length c.list-item.result.items = omega (arith, c.len.ensures, c.list-item.result.ok.0) in
    let small = within_sum length (λ v. v.items) c.args.lists.now c.loop-list.list-index c.list-item.result c.loop-list.count _ _ c.loop-list-test.true c.list-item.is c.loop-list.invariant same c.requires in
    omega arith
