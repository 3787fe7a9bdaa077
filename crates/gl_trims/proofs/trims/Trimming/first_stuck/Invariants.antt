use Rattle.std.proofs.Common.{length}
use Rattle.gl_segments.specs.Clocks.{is_before}
use Rattle.gl_filters.specs.Picked.{edges_of_table}
use Rattle.gl_trims.specs.bodies.Trimming.{AreBothHints, AreAwake}
use Rattle.gl_trims.specs.bodies.Waiting.{still_waiting}
use Rattle.gl_trims.proofs.trims.Trimming.first_stuck.Given as goal

-- what doesn't wait has a follower and a leader
abbrev pub invariant-loop-i : goal.invariant-loop-i
invariant-loop-i l = record {
  hints : AreBothHints (is_before l.self.order.now) l.self.mode (edges_of_table l.self.table.now) l.gone l.sides;
  awake : AreAwake l.gone (length l.self.table.now) l.sides l.waiting;
}

-- how many wait
abbrev pub decreases-loop-i : goal.decreases-loop-i
decreases-loop-i l = still_waiting l.end l.waiting
