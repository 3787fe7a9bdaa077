use Rattle.std.proofs.Common.{◌≡◌, ◌+◌, ◌≤◌, length}
use Rattle.std.specs.List.{All}
use Rattle.std.specs.Vec.{vec_len, vec_capacity}
use Rattle.std.specs.Vec.Iter.{into_iter_items, into_iter_len}
use Rattle.gl_event.specs.Lawful.{lists_of}
use Rattle.gl_live.specs.bodies.Workloads.{IsWorkloadOf}
use Rattle.gl_live.specs.bodies.Rosters.{roster_of}
use Rattle.gl_live.proofs.recording.start_recorders.Given as goal

-- a thread was started for each workload so far, and the workloads that are left are of the session
abbrev pub invariant-loop-workload : goal.invariant-loop-workload
invariant-loop-workload g l = record {
  next : (goal.iterator-loop-workload g).can_next l.workload-iterator;
  finite : (goal.iterator-loop-workload g).is_finite l.workload-iterator;
  counted : into_iter_len l.workload-iterator ≡ length (into_iter_items l.workload-iterator);
  whole : length l.recorders.items + length (into_iter_items l.workload-iterator) ≡ length l.fn.workloads.items;
  room : vec_len l.recorders + length (into_iter_items l.workload-iterator) ≤ vec_capacity l.recorders;
  left : All (IsWorkloadOf (roster_of l.collector)) (into_iter_items l.workload-iterator);
  started : All (λ h. (h.promise.collector.value ≡ l.collector) × (lists_of h.promise.lists.now ≡ lists_of l.lists)) l.recorders.items;
}
