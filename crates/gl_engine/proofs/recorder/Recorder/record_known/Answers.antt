use Rattle.std.proofs.Common.{[], ◌∷◌, ◌++◌, sym, ap, subst, ◌∙◌}
use Rattle.gl_engine.specs.Keeping.{IsRecorder}
use Rattle.gl_engine.proofs.Notes.{answered, event_comes, recorder_more}
use Rattle.gl_engine.proofs.recorder.Recorder.record_known.Goals as goal

pub push_known-requires-clause-next : goal.push_known-requires-clause-next
push_known-requires-clause-next c =
    let (allowed, is) = answered _ _ _ (c.in-Ok.ensures.answers _ _ _ c.self.invariant.tracks) in
    rw is (event_comes _ _ _ _ _ c.self.invariant c.args.event)

pub invariant_of-self : goal.invariant_of-self
invariant_of-self c =
    let (allowed, is) = answered _ _ _ (c.in-Ok.ensures.answers _ _ _ c.self.invariant.tracks) in
    let tracks = c.in-Ok.ensures.tracks _ _ _ c.self.invariant.tracks in
    let pushed = c.push_known.ensures.pushed ∙ ap (λ note. c.self.inside.lane.pushed ++ note ∷ []) is in
    subst (λ thread. IsRecorder c.self.inside.limits thread c.push_known.new.self.lane c.push_known.new.self.pushed c.take.new.self) (sym tracks.its_thread)
    (subst (λ lane. IsRecorder c.self.inside.limits c.self.inside.taker.thread lane c.push_known.new.self.pushed c.take.new.self) (sym c.push_known.ensures.lane)
    (subst (λ notes. IsRecorder c.self.inside.limits c.self.inside.taker.thread c.self.inside.lane.lane notes c.take.new.self) (sym pushed)
    (recorder_more _ _ _ _ _ c.self.invariant c.args.event allowed c.take.new.self tracks)))
