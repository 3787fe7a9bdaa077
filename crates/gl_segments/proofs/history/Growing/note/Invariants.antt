use Rattle.std.proofs.Common.{◌≡◌, length}
use Rattle.gl_segments.specs.bodies.Histories.{KeepsClocks}
use Rattle.gl_segments.proofs.Noting.{AreCounted, AreEither}
use Rattle.gl_segments.proofs.history.Growing.note.Given as goal

-- the counts of the threads so far are the clock's
abbrev pub invariant-loop-link : goal.invariant-loop-link
invariant-loop-link l = record {
  same_thread : l.self.thread ≡ l.fn.self.thread;
  same_segments : l.self.segments ≡ l.fn.self.segments;
  width : length l.self.latest ≡ length l.clock;
  counted : AreCounted l.found l.self.latest l.clock l.link-index;
  either : AreEither l.fn.self.latest l.self.latest l.clock;
  noted : KeepsClocks l.fn.self l.self;
}
