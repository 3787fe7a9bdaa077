use Rattle.std.proofs.Common.{◌≡◌}
use Rattle.gl_shards.specs.Ends.{IsServing}
use Rattle.gl_shards.specs.Feeds.{feed_of}
use Rattle.gl_shards.proofs.worker.serve.Given as goal

abbrev pub invariant-loop : goal.invariant-loop
invariant-loop g l = IsServing l.receiver l.pass l.table × (feed_of l.pass ≡ l.fn.inlet.feed)
