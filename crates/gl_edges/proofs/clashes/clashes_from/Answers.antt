use Rattle.std.proofs.Common.{◌<◌, arith, sym}
use Rattle.gl_edges.proofs.Clashing.{none_any, none_behind}
use Rattle.gl_edges.proofs.clashes.clashes_from.Goals as goal

pub returns-then-number : goal.returns-then-number
returns-then-number c =
    let above : c.args.guard.now.lock < c.index-others-here.result.lock = omega (arith, c.if-number) in
    sym (none_any c.args.guard.now c.args.others.now
    (none_behind c.args.guard.now c.args.others.now c.requires.ascending c.loop-here.here c.index-others-here.result c.index-others-here.is above c.loop-here.invariant))

pub returns : goal.returns
returns c = sym (none_any c.args.guard.now c.args.others.now (λ k d below within. c.loop-here.invariant k d (omega (arith, below, c.loop-here-test.false)) within))
