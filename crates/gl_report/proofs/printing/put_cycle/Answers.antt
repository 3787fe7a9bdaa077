use Rattle.std.specs.Prelude.{slice_get}
use Rattle.gl_report.specs.Text.{edge_text}
use Rattle.gl_report.proofs.Parts.{edges_more}
use Rattle.gl_report.proofs.printing.put_cycle.Goals as goal

pub loop-position-preserved : goal.loop-position-preserved
loop-position-preserved c =
    edges_more (edge_text c.args.listing c.args.names.now c.args.table.now) (slice_get c.args.table.now) _ _ _ c.args.cycle.now c.loop-position.position-index 0 c.loop-position-test.true c.loop-position.invariant (c.in_ok-put_edge_text.ensures c.args.listing c.requires)
