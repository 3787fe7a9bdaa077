use Rattle.std.proofs.Common.{ℕ, ◌<◌}
use Rattle.gl_exclusions.specs.Turns.{IsOver}
use Rattle.gl_exclusions.proofs.turns.is_behind.Given as goal

-- the threads so far are over, if they are of the chain
abbrev pub invariant-loop-thread : goal.invariant-loop-thread
invariant-loop-thread l = (thread : ℕ) → thread < l.thread → IsOver l.sought.mode l.sought.order.now l.turns l.chain l.begin thread
