use Rattle.std.proofs.Common.{◌≡◌, ◌+◌, ◌≤◌, ◌++◌, length, map}
use Rattle.std.specs.Vec.{vec_len, vec_capacity}
use Rattle.std.specs.Vec.Iter.{into_iter_items, into_iter_len}
use Rattle.gl_live.proofs.working.join_workers.Given as goal

-- what the workers so far leave is kept
abbrev pub invariant-loop-worker : goal.invariant-loop-worker
invariant-loop-worker g l = record {
  next : (goal.iterator-loop-worker g).can_next l.worker-iterator;
  finite : (goal.iterator-loop-worker g).is_finite l.worker-iterator;
  all : l.yielded ++ into_iter_items l.worker-iterator ≡ l.fn.workers.items;
  counted : into_iter_len l.worker-iterator ≡ length (into_iter_items l.worker-iterator);
  room : vec_len l.served + length (into_iter_items l.worker-iterator) ≤ vec_capacity l.served;
  feeds : map (λ s. s.feed) l.served.items ≡ map (λ w. w.promise.0.value.feed) l.yielded;
}
