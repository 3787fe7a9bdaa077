use Rattle.std.proofs.Common.{◌≡◌, ◌+◌, ◌≤◌, ◌++◌, length, map}
use Rattle.std.specs.Vec.{vec_len, vec_capacity}
use Rattle.std.specs.Vec.Iter.{into_iter_items, into_iter_len}
use Rattle.gl_live.proofs.working.start_workers.Given as goal

-- a worker was started for each inlet so far
abbrev pub invariant-loop-inlet : goal.invariant-loop-inlet
invariant-loop-inlet g l = record {
  next : (goal.iterator-loop-inlet g).can_next l.inlet-iterator;
  finite : (goal.iterator-loop-inlet g).is_finite l.inlet-iterator;
  all : l.yielded ++ into_iter_items l.inlet-iterator ≡ l.fn.inlets.items;
  counted : into_iter_len l.inlet-iterator ≡ length (into_iter_items l.inlet-iterator);
  shards : l.shard ≡ length l.yielded;
  room : vec_len l.workers + length (into_iter_items l.inlet-iterator) ≤ vec_capacity l.workers;
  feeds : map (λ w. w.promise.0.value.feed) l.workers.items ≡ map (λ i. i.feed) l.yielded;
}
