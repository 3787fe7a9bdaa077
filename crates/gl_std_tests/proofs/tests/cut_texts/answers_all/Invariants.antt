use Rattle.gl_std.specs.Sourced.{items_of, source_of}
use Rattle.gl_std.specs.Streaming.{CanBeAsked}
use Rattle.gl_std_tests.proofs.tests.cut_texts.answers_all.Given as goal

-- the next item can be asked for
abbrev pub invariant-loop-answer : goal.invariant-loop-answer
invariant-loop-answer l = CanBeAsked (items_of l.lines) (source_of l.lines).is_failed
