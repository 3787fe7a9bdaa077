use Rattle.gl_report.specs.Tree.{edge_tree}
use Rattle.gl_report.proofs.Trees.{mapped_more}
use Rattle.gl_report.proofs.listed.edge_values.Goals as goal

pub loop-pair-preserved : goal.loop-pair-preserved
loop-pair-preserved c =
    mapped_more (edge_tree c.args.names.now) _ _ c.args.table.now c.loop-pair.pair-index c.pair-item.result _ c.loop-pair-test.true c.pair-item.is c.loop-pair.invariant
    c.in_ok-push_edge.ensures
