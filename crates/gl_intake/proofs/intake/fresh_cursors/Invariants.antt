use Rattle.std.proofs.Common.{◌≡◌, ℕ, ◌<◌, length}
use Rattle.std.specs.Prelude.{slice_index_or}
use Rattle.gl_intake.specs.declared.intake.ThreadCursor.{ThreadCursor}
use Rattle.gl_intake.proofs.Fresh.{IsFreshCursor}
use Rattle.gl_intake.proofs.intake.fresh_cursors.Given as goal

-- there is a fresh cursor for each thread so far
abbrev pub invariant-loop-thread : goal.invariant-loop-thread
invariant-loop-thread l = record {
  count : length l.cursors.items ≡ l.thread;
  each : (i : ℕ) (d : ThreadCursor) → i < length l.cursors.items → IsFreshCursor l.limits i (slice_index_or l.cursors.items i d);
}
