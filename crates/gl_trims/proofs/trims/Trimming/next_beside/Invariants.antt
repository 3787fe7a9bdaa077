use Rattle.std.proofs.Common.{◌-◌, length}
use Rattle.std.specs.Prelude.{unwrap_or}
use Rattle.gl_segments.specs.Clocks.{is_before}
use Rattle.gl_filters.specs.Picked.{edges_of_table}
use Rattle.gl_trims.specs.bodies.Trimming.{IsStart}
use Rattle.gl_trims.proofs.trims.Trimming.next_beside.Given as goal

-- none so far
abbrev pub invariant-loop-next : goal.invariant-loop-next
invariant-loop-next l = IsStart (is_before l.self.order.now) l.self.mode (edges_of_table l.self.table.now) l.gone l.side l.i l.next

-- how many positions are left to look at
abbrev pub decreases-loop-next : goal.decreases-loop-next
decreases-loop-next l = length l.self.table.now - unwrap_or l.next (length l.self.table.now)
