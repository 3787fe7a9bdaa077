use Rattle.gl_std.specs.Sourced.{items_of, source_of}
use Rattle.gl_std.specs.Streaming.{CanBeAsked}
use Rattle.gl_std_tests.proofs.tests.tables.is_broken_after.Given as goal

-- the next item can be asked for
abbrev pub invariant-loop : goal.invariant-loop
invariant-loop l = CanBeAsked (items_of l.lines) (source_of l.lines).is_failed
