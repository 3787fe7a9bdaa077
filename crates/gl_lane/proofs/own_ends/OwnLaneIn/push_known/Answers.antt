use Rattle.std.proofs.Common.{arith, ap, ◌++◌, ◌∷◌, [], subst, sym, ◌∙◌}
use Rattle.std.specs.Prelude.{ℕ, ◌<◌}
use Rattle.rtrb.specs.Ring.{sent}
use Rattle.gl_event.specs.declared.notes.Body.TheVariants.{Happened}
use Rattle.gl_lane.specs.OwnLanes.{own_lane_of}
use Rattle.gl_lane.specs.bodies.OwnRuns.{notes_after, MayCome}
use Rattle.gl_lane.proofs.OwnNotes.{may_come, notes_next}
use Rattle.gl_lane.proofs.own_ends.OwnLaneIn.push_known.Goals as goal

pub push_reserved-requires : goal.push_reserved-requires
push_reserved-requires c =
    (subst (λ (free : ℕ). 0 < free) c.self.invariant (rw (← c.self.view_is) at c.requires.known), subst (MayCome (sent c.self.inside.producer)) (c.in-Happened.is ∙ ap Happened (sym c.in-Happened.event-is)) (may_come _ _ c.args.note (omega (arith, c.well_formed)) (rw (← c.self.view_is) at c.requires.next)))

pub push_reserved-requires-in-Ended : goal.push_reserved-requires-in-Ended
push_reserved-requires-in-Ended c =
    (subst (λ (free : ℕ). 0 < free) c.self.invariant (rw (← c.self.view_is) at c.requires.known), subst (MayCome (sent c.self.inside.producer)) c.in-Ended.is (may_come _ _ c.args.note (omega (arith, c.well_formed)) (rw (← c.self.view_is) at c.requires.next)))

pub returns-in-Happened-clause-pushed : goal.returns-in-Happened-clause-pushed
returns-in-Happened-clause-pushed c =
    rw (← c.self.view_is)
    (ap (notes_after c.self.inside.thread 0) (c.push_reserved.ensures.sent.0 ∙ ap (λ body. sent c.self.inside.producer ++ body ∷ []) (sym (c.in-Happened.is ∙ ap Happened (sym c.in-Happened.event-is))))
    ∙ notes_next (own_lane_of c.self.inside.thread c.self.inside.producer.end) _ c.args.note (rw (← c.self.view_is) at c.requires.next))

pub returns-in-Ended-clause-pushed : goal.returns-in-Ended-clause-pushed
returns-in-Ended-clause-pushed c =
    rw (← c.self.view_is)
    (ap (notes_after c.self.inside.thread 0) (c.push_reserved-in-Ended.ensures.sent.0 ∙ ap (λ body. sent c.self.inside.producer ++ body ∷ []) (sym c.in-Ended.is))
    ∙ notes_next (own_lane_of c.self.inside.thread c.self.inside.producer.end) _ c.args.note (rw (← c.self.view_is) at c.requires.next))
