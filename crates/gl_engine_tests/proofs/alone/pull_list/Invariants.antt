use Rattle.gl_engine_tests.specs.Sessions.{IsSameSession}
use Rattle.gl_engine_tests.proofs.alone.pull_list.Given as goal

-- the collector stays that of its session
abbrev pub invariant-loop : goal.invariant-loop
invariant-loop l = IsSameSession l.fn.collector l.collector
