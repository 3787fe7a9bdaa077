use Rattle.std.proofs.Common.{◌≡◌, ℕ, ◌+◌, ◌<◌, ◌≤◌, List, length, Some}
use Rattle.std.specs.Prelude.{slice_get}
use Rattle.gl_event.specs.declared.events.Segment.{Segment}
use Rattle.gl_segments.specs.declared.search.Link.{Link}
use Rattle.gl_segments.specs.bodies.Tables.{sources}
use Rattle.gl_segments.specs.bodies.Search.{Counts, Explores, GrowsBy, unseen}
use Rattle.gl_segments.proofs.search.Search.look_at.Given as goal

-- the search holds, and the sources so far are counted
abbrev pub invariant-loop-source : goal.invariant-loop-source
invariant-loop-source l = record {
  same_target : l.self.target ≡ l.fn.self.target;
  explored : Explores l.steps l.fn.self.target l.self.clock l.self.found.items l.at;
  entry : (m : Link) × (slice_get l.self.found.items l.at ≡ Some m) × (l.source-items ≡ sources l.steps m.segment);
  counted : (k : ℕ) (a : Segment) → k < l.source-index → slice_get l.source-items k ≡ Some a → Counts l.self.clock a;
  longer : length l.fn.self.found.items ≤ length l.self.found.items;
  grown : (start : List ℕ) → GrowsBy start l.fn.self.found.items l.fn.self.clock → GrowsBy start l.self.found.items l.self.clock;
  room : unseen l.steps l.self.clock + length l.self.found.items ≡ unseen l.steps l.fn.self.clock + length l.fn.self.found.items;
}
