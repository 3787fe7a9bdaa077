use Rattle.std.proofs.Common.{◌≡◌, ◌++◌, length, map}
use Rattle.std.specs.List.{All}
use Rattle.std.specs.Vec.Iter.{into_iter_items}
use Rattle.gl_live.specs.bodies.Workloads.{AreDealt}
use Rattle.gl_live.specs.bodies.Rosters.{Roster, IsRecorderOf}
use Rattle.gl_live.proofs.session.grouped.Given as goal

-- the recorders in the groups, and those that are left, are of the session; those so far were dealt out
abbrev pub invariant-loop-recorder : goal.invariant-loop-recorder
invariant-loop-recorder l = record {
  count : length l.groups.items ≡ l.count;
  all : l.yielded ++ into_iter_items l.recorder-iterator ≡ l.fn.recorders.items;
  dealt : AreDealt l.count l.yielded (map (λ g. g.items) l.groups.items);
  left : (s : Roster) → All (IsRecorderOf s) l.fn.recorders.items → All (IsRecorderOf s) (into_iter_items l.recorder-iterator);
  ours : (s : Roster) → All (IsRecorderOf s) l.fn.recorders.items → All (λ group. All (IsRecorderOf s) group.items) l.groups.items;
}
