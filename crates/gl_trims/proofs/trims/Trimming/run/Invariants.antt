use Rattle.std.proofs.Common.{length}
use Rattle.gl_segments.specs.Clocks.{is_before}
use Rattle.gl_filters.specs.Picked.{edges_of_table}
use Rattle.gl_trims.specs.bodies.Trimming.{AreTaken}
use Rattle.gl_trims.proofs.Removing.{left}
use Rattle.gl_trims.proofs.trims.Trimming.run.Given as goal

-- those removed so far are flagged, in a trim order
abbrev pub invariant-loop-removed : goal.invariant-loop-removed
invariant-loop-removed l = AreTaken (is_before l.self.order.now) l.self.mode (edges_of_table l.self.table.now) (length l.self.table.now) l.gone.items l.sides l.waiting l.removed.items

-- how many are left
abbrev pub decreases-loop-removed : goal.decreases-loop-removed
decreases-loop-removed l = left l.gone.items
