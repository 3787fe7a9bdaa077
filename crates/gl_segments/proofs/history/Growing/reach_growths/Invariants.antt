use Rattle.std.proofs.Common.{◌≡◌, [], ℕ, ◌<◌, Some}
use Rattle.std.specs.Prelude.{slice_get, slice_index_or}
use Rattle.gl_segments.specs.declared.growths.Growth.{Growth}
use Rattle.gl_segments.specs.bodies.Histories.{KeepsClocks}
use Rattle.gl_segments.specs.bodies.Merging.{IsMerged, IsReached}
use Rattle.gl_segments.proofs.history.Growing.reach_growths.Given as goal

-- the counts of the growths so far are reached
abbrev pub invariant-loop-at : goal.invariant-loop-at
invariant-loop-at l = record {
  same_thread : l.self.thread ≡ l.fn.self.thread;
  same_segments : l.self.segments ≡ l.fn.self.segments;
  merged : IsMerged l.fn.self.latest (slice_index_or l.other l.index []) l.self.latest 0;
  reached : (p : ℕ) (g : Growth) → p < l.at → slice_get l.growths p ≡ Some g → IsReached (slice_index_or l.other l.index []) l.self.latest g.thread g.count;
  noted : KeepsClocks l.fn.self l.self;
}
