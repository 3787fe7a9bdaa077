use Rattle.std.proofs.Common.{◌≡◌, ◌+◌, ◌≤◌, ◌++◌, length, map}
use Rattle.std.specs.Vec.{vec_len, vec_capacity}
use Rattle.std.specs.Vec.Iter.{into_iter_items, into_iter_len}
use Rattle.gl_edges.specs.Edges.{once}
use Rattle.gl_live.proofs.live.settle_workers.Given as goal

-- the tables so far are those of the feeds so far, and the workers that are left are of the feeds that are left
abbrev pub invariant-loop-worker : goal.invariant-loop-worker
invariant-loop-worker l = record {
  counted : into_iter_len l.worker-iterator ≡ length (into_iter_items l.worker-iterator);
  room : vec_len l.tables + length (into_iter_items l.worker-iterator) ≤ vec_capacity l.tables;
  feeds : map (λ s. s.feed) (into_iter_items l.worker-iterator) ≡ map (λ s. s.feed) (into_iter_items l.feeds);
  tables : l.tables.items ++ map (λ s. once s.sent) (into_iter_items l.feeds) ≡ map (λ s. once s.sent) l.fn.sent.items;
}
