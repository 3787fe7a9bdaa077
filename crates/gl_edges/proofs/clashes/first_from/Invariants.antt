use Rattle.gl_edges.specs.bodies.Clashing.{AreBelow}
use Rattle.gl_edges.proofs.clashes.first_from.Given as goal

-- the guards so far have lesser locks
abbrev pub invariant-loop-here : goal.invariant-loop-here
invariant-loop-here l = AreBelow l.guards l.here l.lock
