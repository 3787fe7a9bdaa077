use Rattle.gl_sought.specs.Sought.{GoesOnSeeking}
use Rattle.gl_pruning.proofs.reasons.leave_out_in_turns.Given as goal

-- so far only edges that are in no cycle were left out, and none came back
abbrev pub invariant-loop-turn : goal.invariant-loop-turn
invariant-loop-turn l = GoesOnSeeking l.sought l.fn.kept.items l.kept.items
