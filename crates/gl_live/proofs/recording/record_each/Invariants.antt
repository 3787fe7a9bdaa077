use Rattle.std.proofs.Common.{◌≡◌, ◌++◌, take}
use Rattle.gl_engine.specs.Recording.{recorded, identity_of}
use Rattle.gl_live.proofs.recording.record_each.Given as goal

-- the events so far are recorded
abbrev pub invariant-loop-event : goal.invariant-loop-event
invariant-loop-event g l = record {
  identity : identity_of l.recorder ≡ identity_of l.initial.recorder;
  all : recorded l.recorder ≡ recorded l.initial.recorder ++ take l.event-index l.list;
}
