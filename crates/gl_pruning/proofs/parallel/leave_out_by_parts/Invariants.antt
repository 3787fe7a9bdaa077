use Rattle.gl_sought.specs.Sought.{GoesOnSeeking}
use Rattle.gl_pruning.proofs.parallel.leave_out_by_parts.Given as goal

-- so far only edges that are in no cycle were left out, and none came back
abbrev pub invariant-loop-i : goal.invariant-loop-i
invariant-loop-i g l = GoesOnSeeking l.sought l.fn.kept.items l.kept.items
