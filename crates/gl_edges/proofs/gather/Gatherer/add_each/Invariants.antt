use Rattle.std.proofs.Common.{◌≡◌, List, ◌++◌, map, take}
use Rattle.gl_edges.specs.Guards.{guards_of}
use Rattle.gl_edges.specs.bodies.Tables.{IsTableOf}
use Rattle.gl_edges.specs.bodies.Gatherers.{pair_for}
use Rattle.gl_edges.specs.declared.edge.Edge.{Edge}
use Rattle.gl_edges.specs.declared.edge.Sample.{Sample}
use Rattle.gl_edges.proofs.gather.Gatherer.add_each.Given as goal

abbrev pub invariant-loop-entry : goal.invariant-loop-entry
invariant-loop-entry l = record {
  of_thread : l.self.edge.thread ≡ l.tracker.thread;
  wants : l.self.edge.wanted ≡ l.fn.wanted;
  wants_as : l.self.edge.wanted_mode ≡ l.fn.mode;
  in_segment : l.self.edge.second ≡ l.tracker.state.segments;
  guarded : l.self.edge.guards ≡ guards_of l.tracker.state.held;
  same_seen : l.self.seen ≡ l.fn.self.seen;
  known : (pairs : List (Edge × Sample)) → IsTableOf l.fn.self.batch pairs → IsTableOf l.self.batch (pairs ++ map (pair_for l.tracker l.fn.wanted l.fn.mode l.fn.loc) (take l.entry-index l.tracker.state.held));
}
