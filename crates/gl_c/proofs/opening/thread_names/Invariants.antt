-- The threads so far have their names, in order, and no lock and no place has one.
use Rattle.std.proofs.Common.{◌≡◌, []}
use Rattle.gl_c.specs.Opening.{thread_names}
use Rattle.gl_c.proofs.opening.thread_names.Given as goal

abbrev pub invariant-loop-thread : goal.invariant-loop-thread
invariant-loop-thread l = (l.names.threads ≡ thread_names l.thread) × (l.names.locks ≡ []) × (l.names.locs ≡ [])
