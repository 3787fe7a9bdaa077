use Rattle.std.proofs.Common.{◌≡◌, ℕ, ◌<◌, true, Some}
use Rattle.std.specs.Prelude.{slice_get}
use Rattle.gl_event.specs.declared.events.Segment.{Segment}
use Rattle.gl_segments.specs.bodies.Histories.{KeepsClocks}
use Rattle.gl_segments.specs.bodies.Search.{Counts}
use Rattle.gl_segments.specs.bodies.Sweeps.{is_ended, IsPart}
use Rattle.gl_segments.specs.bodies.Tables.{sources}
use Rattle.gl_segments.proofs.sweep.merge_sources.Given as goal

-- the counts are a part of the segment's clock, and count the sources so far whose threads have ended
abbrev pub invariant-loop-source : goal.invariant-loop-source
invariant-loop-source l = record {
  same_thread : l.growing.thread ≡ l.fn.growing.thread;
  same_segments : l.growing.segments ≡ l.fn.growing.segments;
  items : l.source-items ≡ sources l.steps l.fn.at;
  counted : (k : ℕ) (s : Segment) → k < l.source-index → slice_get l.source-items k ≡ Some s → is_ended l.rows s.thread ≡ true → Counts l.growing.latest s;
  part : IsPart l.steps l.growing.latest l.fn.at;
  noted : KeepsClocks l.fn.growing l.growing;
}
