use Rattle.std.proofs.Common.{◌≡◌, ◌+◌, ◌≤◌, ◌++◌, length, map}
use Rattle.std.specs.Vec.{vec_len, vec_capacity}
use Rattle.std.specs.Vec.Iter.{into_iter_items, into_iter_len}
use Rattle.gl_engine.specs.Gathering.{AreEnded}
use Rattle.gl_engine.proofs.collector_run.end_all.Given as goal

-- the outlets so far were ended
abbrev pub invariant-loop-outlet : goal.invariant-loop-outlet
invariant-loop-outlet g l = record {
  next : (goal.iterator-loop-outlet g).can_next l.outlet-iterator;
  finite : (goal.iterator-loop-outlet g).is_finite l.outlet-iterator;
  all : l.yielded ++ into_iter_items l.outlet-iterator ≡ l.fn.outlets.items;
  counted : into_iter_len l.outlet-iterator ≡ length (into_iter_items l.outlet-iterator);
  shards : l.shard ≡ length l.yielded;
  room : vec_len l.sent + length (into_iter_items l.outlet-iterator) ≤ vec_capacity l.sent;
  ended : AreEnded (map (λ o. o.feed) l.yielded) (map (λ o. o.sent) l.yielded) l.sent.items l.gone;
}
