use Rattle.gl_io.specs.Wrapped.{has_failed}
use Rattle.gl_std.specs.Sourced.{items_of, source_of}
use Rattle.gl_std.specs.Streaming.{CanBeAsked}
use Rattle.gl_scripts.proofs.texts.read.Given as goal

abbrev pub invariant-loop : goal.invariant-loop
invariant-loop l = CanBeAsked (items_of l.lines) (has_failed (source_of l.lines))
