use Rattle.gl_segments.specs.bodies.Fronts.{AreStarting}
use Rattle.gl_segments.proofs.sweep.all_starting.Given as goal

-- those of the threads so far
abbrev pub invariant-loop-thread : goal.invariant-loop-thread
invariant-loop-thread l = AreStarting l.steps l.forks.items
