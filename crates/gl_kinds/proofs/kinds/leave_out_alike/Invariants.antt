use Rattle.gl_sought.specs.Sought.{GoesOnSeeking}
use Rattle.gl_kinds.proofs.kinds.leave_out_alike.Given as goal

-- so far only edges that are in no cycle were left out, and none came back
abbrev pub invariant-loop-i : goal.invariant-loop-i
invariant-loop-i l = GoesOnSeeking l.sought l.fn.kept.items l.kept.items
