use Rattle.std.proofs.Common.{◌≡◌, List, ◌++◌, map}
use Rattle.std.specs.Vec.Iter.{drain_items, DrainKeeps}
use Rattle.gl_edges.specs.declared.edge.Edge.{Edge}
use Rattle.gl_edges.specs.declared.edge.Sample.{Sample}
use Rattle.gl_engine.specs.bodies.Shipping.{HaveShipped}
use Rattle.gl_engine.proofs.pull_and_ship.ship.Given as goal

-- the edges so far were shipped
abbrev pub invariant-loop-edge : goal.invariant-loop-edge
invariant-loop-edge g l = record {
  next : (goal.iterator-loop-edge g).can_next l.edge-iterator;
  finite : (goal.iterator-loop-edge g).is_finite l.edge-iterator;
  all : l.yielded ++ drain_items l.edge-iterator ≡ l.fn.made.items;
  keeps : DrainKeeps l.initial.edge-iterator l.edge-iterator;
  shipped : (before : List (Edge × Sample)) → HaveShipped l.fn.outlets.items before → HaveShipped l.outlets.items (before ++ l.yielded);
  feeds : map (λ o. o.feed) l.outlets.items ≡ map (λ o. o.feed) l.fn.outlets.items;
}
