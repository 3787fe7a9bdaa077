use Rattle.std.proofs.Common.{◌≡◌, length, ap, ◌∙◌, arith}
use Rattle.gl_shards.specs.Shards.{shard_of}
use Rattle.gl_engine.proofs.Running.{shipped_more, sent_same, feeds_same}
use Rattle.gl_engine.proofs.pull_and_ship.ship_one.Goals as goal

pub returns-clause-ships : goal.returns-clause-ships
returns-clause-ships g c =
    let count : c.len.result ≡ length c.args.outlets.now.items = omega (arith, c.len.ensures) in
    record {
      feeds = feeds_same c.args.outlets.now.items c.shard_of-shard.result c.index_mut.result.now c.send.new.self c.index_mut.ensures.value c.send.ensures.feed.0;
      shipped = shipped_more c.args.outlets.now.items c.shard_of-shard.result c.index_mut.result.now c.send.new.self c.index_mut.ensures.value (c.args.edge, c.args.sample) c.requires.shards.some
          (c.shard_of-shard.ensures.value ∙ ap (shard_of c.args.edge) count) (omega (arith, c.shard_of-shard.ensures.within, count)) c.in-Ok.ensures.sent;
    }

pub returns-in_default-clause-ships : goal.returns-in_default-clause-ships
returns-in_default-clause-ships g c = record {
  feeds = feeds_same c.args.outlets.now.items c.shard_of-shard.result c.index_mut.result.now c.send.new.self c.index_mut.ensures.value c.send.ensures.feed.0;
  shipped = λ before are. tt;
}

pub returns-in_default-clause-whose : goal.returns-in_default-clause-whose
returns-in_default-clause-whose g c =
    let count : c.len.result ≡ length c.args.outlets.now.items = omega (arith, c.len.ensures) in
    c.shard_of-shard.ensures.value ∙ ap (shard_of c.args.edge) count

pub returns-in_default-clause-unsent : goal.returns-in_default-clause-unsent
returns-in_default-clause-unsent g c = sent_same c.args.outlets.now.items c.shard_of-shard.result c.index_mut.result.now c.send.new.self c.index_mut.ensures.value c.in_default.ensures.gone.1
