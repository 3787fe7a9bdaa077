use Rattle.std.proofs.Common.{length, take}
use Rattle.gl_segments.specs.Clocks.{is_before}
use Rattle.gl_filters.specs.Picked.{edges_of_table}
use Rattle.gl_trims.specs.Trims.{IsRemovalOrder}
use Rattle.gl_trims.specs.bodies.Trimming.{AreFlagsOf}
use Rattle.gl_trims.proofs.trims.Trimming.fault_of.Given as goal

-- those so far are flagged, in an order of removal
abbrev pub invariant-loop-n : goal.invariant-loop-n
invariant-loop-n l = record {
  flags : AreFlagsOf (length (edges_of_table l.self.table.now)) l.gone.items (take l.n l.removed);
  in_order : IsRemovalOrder (is_before l.self.order.now) l.self.mode (edges_of_table l.self.table.now) (take l.n l.removed);
}
