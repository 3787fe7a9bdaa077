use Rattle.gl_sought.specs.Sought.{GoesOnSeeking}
use Rattle.gl_pruning.proofs.shares.leave_out_apart.Given as goal

-- so far only edges that are in no cycle were left out, and none came back
abbrev pub invariant-loop-number : goal.invariant-loop-number
invariant-loop-number l = GoesOnSeeking l.sought l.fn.kept.items l.kept.items
