use Rattle.std.proofs.Common.{refl}
use Rattle.gl_lane.specs.bodies.OwnRuns.{notes_after}
use Rattle.gl_lane.proofs.own_ends.own_lane.Goals as goal

pub returns-clause-empty : goal.returns-clause-empty
unfolding notes_after
returns-clause-empty c = rw (c.in_ok-producer.ensures.producer.0, c.new.ensures.popped, c.new.ensures.left, c.in_ok-producer.ensures.consumer.1) (refl, refl, refl)
