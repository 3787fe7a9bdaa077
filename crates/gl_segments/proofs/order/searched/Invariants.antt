use Rattle.gl_segments.specs.bodies.Rows.{AreClocksTo}
use Rattle.gl_segments.proofs.order.searched.Given as goal

-- the clocks of the threads so far
abbrev pub invariant-loop-thread : goal.invariant-loop-thread
invariant-loop-thread l = AreClocksTo l.steps l.histories.items l.thread
