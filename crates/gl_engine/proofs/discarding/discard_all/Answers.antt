use Rattle.std.proofs.Common.{◌∙◌}
use Rattle.gl_engine.proofs.Handing.{hand_over_then}
use Rattle.gl_engine.proofs.discarding.discard_all.Goals as goal

pub loop-preserved-then-not-round : goal.loop-preserved-then-not-round
loop-preserved-then-not-round g c = record {
  lanes = c.discard_round-round.ensures.lanes ∙ c.loop.invariant.lanes;
  handed = hand_over_then c.args.inputs.now.items c.loop.inputs.items c.discard_round-round.new.inputs.items c.loop.invariant.handed c.discard_round-round.ensures.handed;
  next = tt;
  finite = tt;
}

pub loop-preserved : goal.loop-preserved
loop-preserved g c = record {
  lanes = c.discard_round-round.ensures.lanes ∙ c.loop.invariant.lanes;
  handed = hand_over_then c.args.inputs.now.items c.loop.inputs.items c.discard_round-round.new.inputs.items c.loop.invariant.handed c.discard_round-round.ensures.handed;
  next = tt;
  finite = tt;
}
