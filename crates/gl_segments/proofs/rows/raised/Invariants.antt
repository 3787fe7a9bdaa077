use Rattle.std.proofs.Common.{◌+◌}
use Rattle.std.specs.Prelude.{slice_set}
use Rattle.gl_segments.specs.bodies.Merging.{IsMerged}
use Rattle.gl_segments.proofs.rows.raised.Given as goal

-- the counts of the threads so far are raised
abbrev pub invariant-loop-thread : goal.invariant-loop-thread
invariant-loop-thread l = IsMerged (slice_set l.clock l.fn.from.thread (l.fn.from.index + 1)) l.front l.raised l.thread
