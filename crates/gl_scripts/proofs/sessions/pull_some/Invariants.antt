use Rattle.std.proofs.Common.{◌≡◌}
use Rattle.gl_scripts.proofs.sessions.pull_some.Given as goal

abbrev pub invariant-loop : goal.invariant-loop
invariant-loop l = l.collector.limits ≡ l.initial.collector.limits
