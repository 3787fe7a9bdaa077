use Rattle.gl_segments.specs.Clocks.{is_before}
use Rattle.gl_filters.specs.Picked.{edges_of_table}
use Rattle.gl_sought.specs.OffCycles.{KeepsCycles}
use Rattle.gl_cycles.proofs.stages.leave_out_all.Given as goal

-- only edges that are in no cycle are left out
abbrev pub invariant-loop : goal.invariant-loop
invariant-loop l = KeepsCycles (is_before l.sought.order.now) l.sought.mode l.sought.len (edges_of_table l.sought.table.now) l.kept.items
