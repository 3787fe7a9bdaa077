use Rattle.std.proofs.Common.{◌≡◌, ℕ, [], Some, length, map}
use Rattle.std.specs.Prelude.{slice_get}
use Rattle.gl_shards.specs.Feeds.{Receiving, Sending}
use Rattle.gl_engine_tests.proofs.feeds.feeds.Given as goal

-- there are two ends of each feed so far
abbrev pub invariant-loop : goal.invariant-loop
invariant-loop l = record {
  count : length l.outlets.items ≡ l.counter;
  unsent : (shard : ℕ) (o : Sending) → slice_get l.outlets.items shard ≡ Some o → o.sent ≡ [];
  one_feed : map (λ (o : Sending). o.feed) l.outlets.items ≡ map (λ (i : Receiving). i.feed) l.inlets.items;
}
