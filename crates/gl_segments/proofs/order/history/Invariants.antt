use Rattle.std.proofs.Common.{◌≡◌, ℕ, ◌<◌, List, length}
use Rattle.gl_segments.specs.bodies.Histories.{IsNoted}
use Rattle.gl_segments.specs.bodies.Tables.{Has}
use Rattle.gl_segments.specs.bodies.Search.{MayStart}
use Rattle.gl_segments.specs.bodies.Rows.{AreClocksBelow}
use Rattle.gl_segments.proofs.order.history.Given as goal

-- the clocks so far were noted, and the search may go on to the next segment
abbrev pub invariant-loop-index : goal.invariant-loop-index
invariant-loop-index l = record {
  same_thread : l.growing.thread ≡ l.thread;
  width : length l.growing.latest ≡ length l.steps;
  latest : 0 < l.index → l.growing.latest ≡ l.search.clock;
  clocks : (clocks : List (List ℕ)) × IsNoted l.growing clocks × AreClocksBelow l.steps l.thread clocks l.index;
  ready : Has l.steps (record { thread = l.thread; index = l.index }) → MayStart l.steps l.search.clock (record { thread = l.thread; index = l.index });
}
