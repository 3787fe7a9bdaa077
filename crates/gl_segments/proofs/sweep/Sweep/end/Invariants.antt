use Rattle.gl_segments.specs.bodies.Sweeps.{AreSwept}
use Rattle.gl_segments.proofs.sweep.Sweep.end.Given as goal

-- what was made is known
abbrev pub invariant-loop : goal.invariant-loop
invariant-loop l = AreSwept l.steps l.self
