use Rattle.gl_sought.specs.Sought.{GoesOnSeeking}
use Rattle.gl_ways.proofs.no_way.leave_out_in_rounds.Given as goal

-- so far only edges that are in no cycle were left out, and none came back
abbrev pub invariant-loop : goal.invariant-loop
invariant-loop l = GoesOnSeeking l.sought l.fn.kept.items l.kept.items
