use Rattle.std.proofs.Common.{◌-◌, length}
use Rattle.std.specs.Prelude.{unwrap_or}
use Rattle.gl_segments.specs.Clocks.{is_before}
use Rattle.gl_filters.specs.Picked.{edges_of_table}
use Rattle.gl_exclusions.specs.bodies.Partners.{IsNextBeside}
use Rattle.gl_exclusions.proofs.partners.next_beside.Given as goal

-- none so far
abbrev pub invariant-loop-next : goal.invariant-loop-next
invariant-loop-next l = IsNextBeside (is_before l.sought.order.now) l.sought.mode (edges_of_table l.sought.table.now) l.kept l.side l.x l.next

-- how many positions are left to look at
abbrev pub decreases-loop-next : goal.decreases-loop-next
decreases-loop-next l = length l.sought.table.now - unwrap_or l.next (length l.sought.table.now)
