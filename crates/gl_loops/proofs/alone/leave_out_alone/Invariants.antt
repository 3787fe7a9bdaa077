use Rattle.std.proofs.Common.{◌<◌}
use Rattle.gl_filters.specs.Picked.{edges_of_table}
use Rattle.gl_loops.specs.Alone.{LeavesOutAlone}
use Rattle.gl_sought.specs.Sought.{GoesOnSeeking}
use Rattle.gl_loops.proofs.alone.leave_out_alone.Given as goal

-- so far only edges that are in no cycle were left out, and none came back; behind the first pass among them are all that were alone
abbrev pub invariant-loop-pass : goal.invariant-loop-pass
invariant-loop-pass l = record {
  goes_on : GoesOnSeeking l.sought l.fn.kept.items l.kept.items;
  alone : 0 < l._pass → LeavesOutAlone (edges_of_table l.sought.table.now) l.fn.kept.items l.kept.items;
}
