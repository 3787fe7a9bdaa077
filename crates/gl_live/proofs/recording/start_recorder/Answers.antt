use Rattle.gl_live.specs.bodies.Rosters.{roster_of}
use Rattle.gl_live.proofs.recording.start_recorder.Goals as goal

pub spawn_with-recorder-requires-clause-keeps : goal.spawn_with-recorder-requires-clause-keeps
spawn_with-recorder-requires-clause-keeps g c κs within r told =
    rw c.of.ensures (told (roster_of c.args.collector.now) c.requires.ours c.requires.kept)
