use Rattle.gl_segments.specs.Clocks.{is_before}
use Rattle.gl_filters.specs.Picked.{edges_of_table}
use Rattle.gl_loops.proofs.Off.{loops_keep}
use Rattle.gl_pruning.proofs.reasons.on_loops.Goals as goal

-- what lies on no loop is in no cycle
pub returns : goal.returns
returns c = let s = c.args.sought.now in loops_keep (is_before s.order.now) s.mode (edges_of_table s.table.now) s.len c.in_ok-kept.kept.items c.in_ok-kept.ensures
