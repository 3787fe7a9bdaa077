use Rattle.std.proofs.Common.{◌≤◌}
use Rattle.gl_engine.proofs.discarding.running.Given as goal

-- no more are counted than were looked at
abbrev pub invariant-loop-number : goal.invariant-loop-number
invariant-loop-number l = l.left ≤ l.number
