use Rattle.std.proofs.Common.{◌≡◌, ℕ, ◌<◌, List, length, Some}
use Rattle.std.specs.Prelude.{slice_get}
use Rattle.gl_event.specs.declared.events.Event.{Event}
use Rattle.gl_event.specs.Lawful.{lists_of}
use Rattle.gl_segments.specs.bodies.Tables.{AreStepsOfThread, steps_of_thread}
use Rattle.gl_segments.proofs.steps.Steps.of.Given as goal

-- the steps of the threads so far
abbrev pub invariant-loop-thread : goal.invariant-loop-thread
invariant-loop-thread l = record {
  size : length l.by_thread.items ≡ l.thread;
  each : (t : ℕ) (es : List Event) → t < l.thread → slice_get (lists_of l.cuts.items) t ≡ Some es
      → AreStepsOfThread (lists_of l.cuts.items) t es (steps_of_thread l.by_thread.items t);
}
