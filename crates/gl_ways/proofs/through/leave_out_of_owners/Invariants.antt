use Rattle.gl_sought.specs.Sought.{GoesOnSeeking}
use Rattle.gl_ways.proofs.through.leave_out_of_owners.Given as goal

-- so far only edges that are in no cycle were left out, and none came back
abbrev pub invariant-loop-owner : goal.invariant-loop-owner
invariant-loop-owner l = GoesOnSeeking l.sought l.fn.kept.items l.kept.items
