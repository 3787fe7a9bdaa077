use Rattle.std.proofs.Common.{arith, ap, ◌∙◌}
use Rattle.gl_lane.specs.OwnLanes.{own_lane_of}
use Rattle.gl_lane.specs.bodies.OwnRuns.{notes_after}
use Rattle.gl_lane.proofs.OwnNotes.{may_come, notes_next}
use Rattle.gl_lane.proofs.own_ends.OwnLaneIn.push.Goals as goal

pub push-requires : goal.push-requires
push-requires c = may_come _ _ c.args.note (omega (arith, c.well_formed)) (rw (← c.self.view_is) at c.requires.next)

pub returns-in-Ok-clause-pushed : goal.returns-in-Ok-clause-pushed
returns-in-Ok-clause-pushed c =
    let ok = rw c.in-Ok.is at c.push.ensures.ok in
    (rw (← c.self.view_is) (ap (notes_after c.self.inside.thread 0) ok.0 ∙ notes_next (own_lane_of c.self.inside.thread c.self.inside.producer.end) _ c.args.note (rw (← c.self.view_is) at c.requires.next)), rw (← c.self.view_is, c.self.invariant, c.cached_slots-self-inside.ensures) ok.1)
