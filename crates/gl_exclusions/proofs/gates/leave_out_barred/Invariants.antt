use Rattle.gl_filters.specs.Picked.{edges_of_table}
use Rattle.gl_index.specs.Sides.{opposite}
use Rattle.gl_sought.specs.Sought.{GoesOnSeeking}
use Rattle.gl_exclusions.specs.bodies.Gates.{AreGated}
use Rattle.gl_exclusions.proofs.gates.leave_out_barred.Given as goal

-- so far only edges that are in no cycle were left out, none came back, and those that stay are gated
abbrev pub invariant-loop-x : goal.invariant-loop-x
invariant-loop-x l = record {
  goes_on : GoesOnSeeking l.sought l.fn.kept.items l.kept.items;
  gated : AreGated (opposite l.side) (edges_of_table l.sought.table.now) l.kept.items l.gates;
}
