use Rattle.gl_engine.proofs.Notes.{end_comes, receipt_of}
use Rattle.gl_engine.proofs.recorder.Recorder.close.Goals as goal

pub push-requires : goal.push-requires
push-requires c = rw (c.end.ensures.mark _ _ _ c.self.invariant.tracks) (record { next = end_comes _ _ _ _ _ c.self.invariant })

pub invariant_of-result-in-Some : goal.invariant_of-result-in-Some
invariant_of-result-in-Some c =
    rw (c.in-Some.ensures.pushed, c.in-Ok.ensures.pushed.0, c.end.ensures.mark _ _ _ c.self.invariant.tracks, c.thread-thread.ensures.value, c.taken-taken.ensures.length _ _ _ c.self.invariant.tracks)
    (receipt_of _ _ _ _ _ c.self.invariant)
