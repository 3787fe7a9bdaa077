use Rattle.gl_sought.specs.Sought.{GoesOnSeeking}
use Rattle.gl_ways.proofs.far.leave_out_far.Given as goal

-- so far only edges that are in no cycle were left out, and none came back
abbrev pub invariant-loop-lock : goal.invariant-loop-lock
invariant-loop-lock l = GoesOnSeeking l.sought l.fn.kept.items l.kept.items
