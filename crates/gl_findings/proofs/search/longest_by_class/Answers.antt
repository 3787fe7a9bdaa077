use Rattle.gl_segments.specs.Clocks.{is_before}
use Rattle.gl_filters.specs.Picked.{edges_of_table}
use Rattle.gl_pruning.specs.Limits.{AreLimits}
use Rattle.gl_grounds.specs.Classes.{classes_of}
use Rattle.gl_findings.specs.bodies.Lengths.{AreGreatest}
use Rattle.gl_findings.proofs.LongFronts.{longest_from}
use Rattle.gl_findings.proofs.search.longest_by_class.Goals as goal

pub returns : goal.returns
returns c =
    let before = is_before c.args.order.now in
    let asked = c.args.query.now in
    let edges = c.args.edges.now in
    let sought = c.of-sought.ensures in
    let limits : AreLimits before asked.mode asked.len (edges_of_table edges) c.in_ok-limits.limits.items = rw (sought.table, sought.order, sought.mode, sought.len) at c.in_ok-limits.ensures in
    let greatest : AreGreatest (classes_of edges) c.in_ok-limits.limits.items c.in_ok-longest.longest.items =
    rw (c.deref-2.ensures.value, c.deref-3.ensures.value, c.requires.same_classes) at c.in_ok-longest.ensures in
    longest_from before asked.mode asked.len (edges_of_table edges) (classes_of edges) c.in_ok-limits.limits.items c.in_ok-longest.longest.items limits greatest
