use Rattle.std.proofs.Common.{[], ◌∷◌, ◌++◌, sym, ap, subst, ◌∙◌}
use Rattle.gl_engine.specs.Keeping.{IsRecorder}
use Rattle.gl_engine.proofs.Notes.{event_comes, recorder_more}
use Rattle.gl_engine.proofs.recorder.Recorder.push.Goals as goal

pub push-requires : goal.push-requires
push-requires c =
    let is = rw (← c.self.view_is) at c.requires.its_note in
    rw is (record { next = event_comes _ _ _ _ _ c.self.invariant c.args.event.now })

pub invariant_of-self-2 : goal.invariant_of-self-2
invariant_of-self-2 c =
    let allowed = rw (← c.self.view_is) at c.requires.lawful in
    let is = rw (← c.self.view_is) at c.requires.its_note in
    let tracks = c.advance.ensures _ _ _ c.self.invariant.tracks in
    let pushed = c.in-Ok.ensures.pushed.0 ∙ ap (λ note. c.self.inside.lane.pushed ++ note ∷ []) is in
    subst (λ thread. IsRecorder c.self.inside.limits thread c.push.new.self.lane c.push.new.self.pushed c.advance.new.self) (sym tracks.its_thread)
    (subst (λ lane. IsRecorder c.self.inside.limits c.self.inside.taker.thread lane c.push.new.self.pushed c.advance.new.self) (sym c.push.ensures.lane)
    (subst (λ notes. IsRecorder c.self.inside.limits c.self.inside.taker.thread c.self.inside.lane.lane notes c.advance.new.self) (sym pushed)
    (recorder_more _ _ _ _ _ c.self.invariant c.args.event.now allowed c.advance.new.self tracks)))
