-- The tests of two edges that one loop makes.
use Rattle.std.specs.Prelude.{Bool}
use Rattle.gl_event.specs.declared.events.Segment.{Segment}
use Rattle.gl_edges.specs.declared.edge.Edge.{Edge}
use Rattle.gl_filters.specs.Cycle.{is_ordered}
use Rattle.gl_filters.specs.Verdicts.{hold_one_lock, are_of_one_thread, have_gate_lock}
use Rattle.gl_filters.specs.declared.verdict.Clash.{Clash}
use Rattle.gl_filters.specs.declared.verdict.Clash.TheVariants.{SameLock, SameThread, SharedGuard, Ordered}

-- the test with this name
abbrev pub clashes : (Segment → Segment → Bool) → Clash → Edge → Edge → Bool
clashes before SameLock = hold_one_lock
clashes before SameThread = are_of_one_thread
clashes before SharedGuard = have_gate_lock
clashes before Ordered = is_ordered before
