use Rattle.gl_segments.specs.bodies.Sweeps.{AreSwept}
use Rattle.gl_segments.proofs.sweep.clocks.Given as goal

-- what was made is known
abbrev pub invariant-loop-thread : goal.invariant-loop-thread
invariant-loop-thread l = AreSwept l.steps l.sweep
