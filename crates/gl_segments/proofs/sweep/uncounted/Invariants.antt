use Rattle.std.proofs.Common.{◌≡◌, ℕ, ◌<◌, Some}
use Rattle.std.specs.Prelude.{slice_get}
use Rattle.gl_event.specs.declared.events.Segment.{Segment}
use Rattle.gl_segments.specs.bodies.Search.{Counts}
use Rattle.gl_segments.proofs.sweep.uncounted.Given as goal

-- those so far are counted
abbrev pub invariant-loop-segment : goal.invariant-loop-segment
invariant-loop-segment l = (k : ℕ) (s : Segment) → k < l.segment-index → slice_get l.segments k ≡ Some s → Counts l.counts s
