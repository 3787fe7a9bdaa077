use Rattle.std.proofs.Common.{ap, ◌∙◌}
use Rattle.gl_lane.specs.bodies.OwnRuns.{notes_after}
use Rattle.gl_lane.proofs.OwnRunning.{without_none}
use Rattle.gl_lane.proofs.own_ends.OwnLaneOut.new.Goals as goal

pub returns-clause-popped : goal.returns-clause-popped
unfolding notes_after
returns-clause-popped c = ap (notes_after c.args.thread 0) (without_none _ ∙ c.requires.none)
