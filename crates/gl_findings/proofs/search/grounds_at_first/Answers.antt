use Rattle.gl_segments.specs.Clocks.{is_before}
use Rattle.gl_filters.specs.Picked.{edges_of_table}
use Rattle.gl_sought.specs.OffCycles.{KeepsCycles}
use Rattle.gl_findings.proofs.search.grounds_at_first.Goals as goal

-- what is left out at first is in no cycle
pub returns : goal.returns
returns c =
    let before = is_before c.args.order.now in
    let asked = c.args.query.now in
    let sought = c.of.ensures in
    let keeps : KeepsCycles before asked.mode asked.len (edges_of_table c.args.edges.now) c.in_ok-kept.kept.items = rw (sought.table, sought.order, sought.mode, sought.len) at c.in_ok-kept.ensures.kept in
    c.in_ok-grounds.ensures before asked.mode asked.len keeps
