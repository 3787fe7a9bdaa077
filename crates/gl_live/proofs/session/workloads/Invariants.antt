use Rattle.std.proofs.Common.{◌≡◌, ◌++◌, map}
use Rattle.std.specs.List.{All}
use Rattle.std.specs.Vec.Iter.{into_iter_items}
use Rattle.gl_live.specs.bodies.Workloads.{AreDealt, IsWorkloadOf}
use Rattle.gl_live.specs.bodies.Rosters.{Roster, IsRecorderOf}
use Rattle.gl_live.proofs.session.workloads.Given as goal

-- the workloads are of the session, and so are the groups that are left; those so far have the recorders of the groups so far
abbrev pub invariant-loop-group : goal.invariant-loop-group
invariant-loop-group l = record {
  same : map (λ w. w.recorders.items) l.workloads.items ≡ map (λ g. g.items) l.yielded;
  dealt : AreDealt l.count l.fn.recorders.items (map (λ g. g.items) (l.yielded ++ into_iter_items l.group-iterator));
  left : (s : Roster) → All (IsRecorderOf s) l.fn.recorders.items → All (λ group. All (IsRecorderOf s) group.items) (into_iter_items l.group-iterator);
  ours : (s : Roster) → All (IsRecorderOf s) l.fn.recorders.items → All (IsWorkloadOf s) l.workloads.items;
}
