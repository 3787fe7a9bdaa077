use Rattle.std.proofs.Common.{[], sym, subst, ◌∙◌}
use Rattle.gl_engine.specs.Keeping.{IsRecorder}
use Rattle.gl_engine.proofs.Notes.{recorder_new}
use Rattle.gl_engine.proofs.recorder.Recorder.new.Goals as goal

pub invariant_of-result : goal.invariant_of-result
invariant_of-result c =
    let fresh = recorder_new c.args.limits.now c.args.thread c.args.lane.lane c.new.result c.requires.known c.requires.own c.new.ensures.tracks in
    rw c.requires.empty (subst (λ thread. IsRecorder c.args.limits.now thread c.args.lane.lane [] c.new.result) (sym c.new.ensures.tracks.its_thread) fresh)
