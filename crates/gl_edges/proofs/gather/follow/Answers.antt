use Rattle.std.proofs.Common.{length, ◌<◌, arith}
use Rattle.gl_edges.proofs.Gathering.{follows_next, followed}
use Rattle.gl_edges.proofs.gather.follow.Goals as goal

pub advance-requires : goal.advance-requires
advance-requires c =
    let within : c.loop-place.place < length c.args.list.now = omega (arith, c.loop-place-test.true, c.requires.within) in
    follows_next c.args.thread c.args.list.now c.loop-place.place c.index-list-place.result c.loop-place.tracker within c.index-list-place.is c.loop-place.invariant c.requires.lawful

pub loop-place-preserved : goal.loop-place-preserved
loop-place-preserved c =
    let within : c.loop-place.place < length c.args.list.now = omega (arith, c.loop-place-test.true, c.requires.within) in
    let before = c.loop-place.invariant in
    followed c.args.thread c.args.list.now c.loop-place.place c.index-list-place.result c.loop-place.tracker within c.index-list-place.is before c.advance.new.self (c.advance.ensures c.args.thread _ before)
