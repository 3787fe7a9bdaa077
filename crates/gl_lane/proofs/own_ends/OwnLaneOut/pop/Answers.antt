use Rattle.gl_lane.proofs.OwnRunning.{begins_nothing}
use Rattle.gl_lane.proofs.own_ends.OwnLaneOut.pop.Goals as goal

pub returns-in_default-clause-empty : goal.returns-in_default-clause-empty
returns-in_default-clause-empty c =
    let made = c.in_default.ensures in
    (made.popped, begins_nothing c.args.self.now.left c.peek.new.self.left made.left made.shown, made.shown)
