use Rattle.gl_engine.specs.bodies.Opening.{AreFresh}
use Rattle.gl_engine.proofs.session.open_lanes.Given as goal

-- there are a recorder and an input for each thread so far
abbrev pub invariant-loop-thread : goal.invariant-loop-thread
invariant-loop-thread l = AreFresh l.session l.limits l.thread l.recorders.items l.inputs.items
