use Rattle.std.proofs.Common.{List, ◌++◌, take, ◌≤◌}
use Rattle.gl_edges.specs.bodies.Gatherers.{Gathers}
use Rattle.gl_edges.specs.bodies.Sharing.{edges_between}
use Rattle.gl_edges.specs.bodies.Tables.{IsTableOf}
use Rattle.gl_edges.specs.Tracking.{Follows}
use Rattle.gl_edges.specs.declared.edge.Edge.{Edge}
use Rattle.gl_edges.specs.declared.edge.Sample.{Sample}
use Rattle.gl_edges.proofs.gather.Gatherer.take_part.Given as goal

abbrev pub invariant-loop-place : goal.invariant-loop-place
invariant-loop-place l = record {
  begun : l.fn.from ≤ l.place;
  follows : Follows l.fn.thread (take l.place l.list) l.tracker;
  known : (pairs : List (Edge × Sample)) → IsTableOf l.fn.self.batch pairs → Gathers (pairs ++ edges_between l.fn.thread l.list l.fn.from l.place) l.place l.self;
}
