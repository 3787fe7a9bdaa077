use Rattle.std.proofs.Common.{◌≡◌, map}
use Rattle.gl_shards.specs.Feeds.{AllSent, Receiving}
use Rattle.gl_engine_tests.proofs.feeds.tables_of.Given as goal

-- what was sent stands in the order of the feeds
abbrev pub invariant-loop : goal.invariant-loop
invariant-loop g l = map (λ (s : AllSent). s.feed) l.sent.items ≡ map (λ (i : Receiving). i.feed) l.inlets.items
