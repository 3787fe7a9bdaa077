use Rattle.gl_engine.proofs.Opening.{fresh_push}
use Rattle.gl_engine.proofs.session.open_lanes.Goals as goal

pub loop-thread-preserved : goal.loop-thread-preserved
loop-thread-preserved c =
    let before = c.loop-thread in
    let fresh = rw c.new.ensures at c.in_ok-recorder.ensures.fresh in
    rw (c.in_ok-push.ensures.items, c.in_ok-push-2.ensures.items)
    (fresh_push c.args.session c.args.limits.now before.thread before.recorders.items before.inputs.items before.invariant c.in_ok-recorder.recorder c.in_ok-recorder.input fresh c.in_ok-recorder.ensures.input)
