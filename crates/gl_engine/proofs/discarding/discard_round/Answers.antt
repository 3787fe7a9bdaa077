use Rattle.std.proofs.Common.{◌∙◌}
use Rattle.gl_engine.specs.bodies.Whole.{lane_of}
use Rattle.gl_engine.proofs.Handing.{hand_over_then}
use Rattle.gl_engine.proofs.Running.{as_long}
use Rattle.gl_engine.proofs.discarding.discard_round.Goals as goal

pub loop-index-preserved : goal.loop-index-preserved
loop-index-preserved c =
    let was = c.loop-index.invariant in
    record {
      lanes = c.discard_at-round.ensures.lanes ∙ was.lanes;
      count = as_long lane_of lane_of c.discard_at-round.new.inputs.items c.args.inputs.now.items (c.discard_at-round.ensures.lanes ∙ was.lanes);
      handed = hand_over_then c.args.inputs.now.items c.loop-index.inputs.items c.discard_at-round.new.inputs.items was.handed c.discard_at-round.ensures.handed;
    }
