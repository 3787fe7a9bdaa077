use Rattle.std.proofs.Common.{sym, subst}
use Rattle.std.specs.Prelude.{Contains}
use Rattle.gl_segments.proofs.Starting.{starting_more}
use Rattle.gl_segments.proofs.sweep.add_starting.Goals as goal

pub loop-source-preserved : goal.loop-source-preserved
loop-source-preserved c =
    let inv = c.loop-source.invariant in
    let step = subst (λ xs. Contains xs c.source-item.result) inv.items (c.loop-source.source-index, c.loop-source-test.true, sym c.source-item.is) in
    record {
      items = inv.items;
      starting = λ before. rw c.in_ok-push.ensures.items (starting_more c.args.steps.now c.loop-source.forks.items c.args.thread c.source-item.result step (inv.starting before));
    }
