use Rattle.std.proofs.Common.{◌≡◌, ◌+◌, ◌-◌, ◌≤◌, ◌++◌, length}
use Rattle.gl_segments.specs.bodies.Search.{links_back}
use Rattle.gl_segments.proofs.search.Search.reach.Given as goal

-- what is still to be linked completes what there is
abbrev pub invariant-loop-index : goal.invariant-loop-index
invariant-loop-index l = record {
  low : l.known ≤ l.index;
  same_target : l.self.target ≡ l.fn.self.target;
  same_clock : l.self.clock ≡ l.fn.self.clock;
  rest : l.self.found.items ++ links_back (record { thread = l.source.thread; index = l.index - 1 }) l.next (length l.self.found.items) (l.index - l.known)
      ≡ l.fn.self.found.items ++ links_back l.source l.at (length l.fn.self.found.items) (l.source.index + 1 - l.known);
}
