use Rattle.gl_segments.specs.bodies.Fronts.{first_of, AreStarting}
use Rattle.gl_segments.specs.bodies.Tables.{sources}
use Rattle.std.proofs.Common.{◌≡◌}
use Rattle.gl_segments.proofs.sweep.add_starting.Given as goal

-- those so far are forks of the thread
abbrev pub invariant-loop-source : goal.invariant-loop-source
invariant-loop-source l = record {
  items : l.source-items ≡ sources l.steps (first_of l.thread);
  starting : AreStarting l.steps l.fn.forks.items → AreStarting l.steps l.forks.items;
}
