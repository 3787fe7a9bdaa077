use Rattle.std.proofs.Common.{◌≡◌, [], ℕ, ◌<◌}
use Rattle.std.specs.Prelude.{slice_index, slice_index_or}
use Rattle.gl_segments.specs.bodies.Histories.{KeepsClocks}
use Rattle.gl_segments.specs.bodies.Merging.{IsMerged, IsReached}
use Rattle.gl_segments.proofs.history.Growing.reach_first.Given as goal

-- the counts of the threads so far are reached
abbrev pub invariant-loop-place : goal.invariant-loop-place
invariant-loop-place l = record {
  same_thread : l.self.thread ≡ l.fn.self.thread;
  same_segments : l.self.segments ≡ l.fn.self.segments;
  merged : IsMerged l.fn.self.latest (slice_index_or l.other l.index []) l.self.latest 0;
  reached : (k : ℕ) → k < l.place → IsReached (slice_index_or l.other l.index []) l.self.latest k (slice_index l.first k);
  noted : KeepsClocks l.fn.self l.self;
}
