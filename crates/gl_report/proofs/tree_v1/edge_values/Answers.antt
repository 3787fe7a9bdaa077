use Rattle.std.specs.Prelude.{slice_get}
use Rattle.gl_report.specs.TreeV1.{edge_tree_v1}
use Rattle.gl_report.proofs.Trees.{found_more}
use Rattle.gl_report.proofs.tree_v1.edge_values.Goals as goal

pub loop-position-preserved : goal.loop-position-preserved
loop-position-preserved c =
    found_more (edge_tree_v1 c.args.names.now) (slice_get c.args.table.now) _ _ c.args.cycle.now c.loop-position.position-index 0 c.loop-position-test.true c.loop-position.invariant c.in_ok-push_edge.ensures
