use Rattle.gl_event.specs.Lawful.{lists_of}
use Rattle.gl_segments.proofs.Tabling.{AreStepsBelow}
use Rattle.gl_segments.proofs.steps.steps_of_thread.Given as goal

-- the first segment's, and those of the segments after the forks and joins so far
abbrev pub invariant-loop-index : goal.invariant-loop-index
invariant-loop-index l = AreStepsBelow (lists_of l.cuts) l.thread l.cut-items l.steps l.index
