use Rattle.std.proofs.Common.{ap, ◌∙◌}
use Rattle.std.proofs.Math.Seq.{map-set_same}
use Rattle.gl_engine.specs.bodies.Whole.{lane_of}
use Rattle.gl_engine.proofs.Handing.{hand_over_one}
use Rattle.gl_engine.proofs.discarding.discard_at.Goals as goal

pub returns-in-Nothing-clause-lanes : goal.returns-in-Nothing-clause-lanes
returns-in-Nothing-clause-lanes c = map-set_same lane_of c.args.inputs.now.items c.args.index _ c.index_mut.result.now (c.discard_one.ensures.lane ∙ ap lane_of c.index_mut.ensures.value)

pub returns-in-Nothing-clause-handed : goal.returns-in-Nothing-clause-handed
returns-in-Nothing-clause-handed c = hand_over_one c.args.inputs.now.items c.args.index c.index_mut.result.now _ c.requires c.index_mut.ensures.value c.discard_one.ensures.handed

pub returns-in-Event-clause-lanes : goal.returns-in-Event-clause-lanes
returns-in-Event-clause-lanes c = map-set_same lane_of c.args.inputs.now.items c.args.index _ c.index_mut.result.now (c.discard_one.ensures.lane ∙ ap lane_of c.index_mut.ensures.value)

pub returns-in-Event-clause-handed : goal.returns-in-Event-clause-handed
returns-in-Event-clause-handed c = hand_over_one c.args.inputs.now.items c.args.index c.index_mut.result.now _ c.requires c.index_mut.ensures.value c.discard_one.ensures.handed

pub returns-in-Ended-clause-lanes : goal.returns-in-Ended-clause-lanes
returns-in-Ended-clause-lanes c = map-set_same lane_of c.args.inputs.now.items c.args.index _ c.index_mut.result.now (c.discard_one.ensures.lane ∙ ap lane_of c.index_mut.ensures.value)

pub returns-in-Ended-clause-handed : goal.returns-in-Ended-clause-handed
returns-in-Ended-clause-handed c = hand_over_one c.args.inputs.now.items c.args.index c.index_mut.result.now _ c.requires c.index_mut.ensures.value c.discard_one.ensures.handed
