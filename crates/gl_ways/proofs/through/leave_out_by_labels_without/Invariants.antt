use Rattle.gl_filters.specs.Picked.{edges_of_table}
use Rattle.gl_sought.specs.Sought.{GoesOnSeeking}
use Rattle.gl_ways.specs.bodies.Owners.{GrowWithout}
use Rattle.gl_ways.proofs.through.leave_out_by_labels_without.Given as goal

-- so far only edges that are in no cycle were left out, none came back, and the labels still grow by one along those that are kept and
-- that others have
abbrev pub invariant-loop-x : goal.invariant-loop-x
invariant-loop-x l = record {
  goes_on : GoesOnSeeking l.sought l.fn.kept.items l.kept.items;
  grow : GrowWithout l.sought.mode l.owner (edges_of_table l.sought.table.now) l.kept.items l.ends l.labels;
}
