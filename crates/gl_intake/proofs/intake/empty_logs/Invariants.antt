use Rattle.std.proofs.Common.{◌≡◌, ℕ, ◌<◌, length, Vec, Global}
use Rattle.std.specs.Prelude.{slice_index_or}
use Rattle.gl_event.specs.declared.events.Event.{Event}
use Rattle.gl_intake.proofs.Fresh.{IsEmptyLog}
use Rattle.gl_intake.proofs.intake.empty_logs.Given as goal

-- there is an empty log for each thread so far
abbrev pub invariant-loop-thread : goal.invariant-loop-thread
invariant-loop-thread l = record {
  count : length l.logs.items ≡ l.thread;
  each : (i : ℕ) (d : Vec Event Global) → i < length l.logs.items → IsEmptyLog i (slice_index_or l.logs.items i d);
}
