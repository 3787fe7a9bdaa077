use Rattle.std.proofs.Common.{◌-◌, length}
use Rattle.gl_segments.specs.bodies.Sweeps.{AreSwept, IsGrowing}
use Rattle.gl_segments.specs.bodies.Tables.{steps_of_thread}
use Rattle.gl_segments.proofs.sweep.Sweep.grow.Given as goal

-- what was made is known
abbrev pub invariant-loop-growing : goal.invariant-loop-growing
invariant-loop-growing l = record {
  swept : AreSwept l.steps l.self;
  growing : IsGrowing l.steps l.thread l.growing;
}

-- the segments without a clock
abbrev pub decreases-loop-growing : goal.decreases-loop-growing
decreases-loop-growing l = length (steps_of_thread l.steps l.thread) - l.growing.segments
