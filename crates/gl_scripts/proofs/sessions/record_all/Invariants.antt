use Rattle.std.proofs.Common.{◌≡◌}
use Rattle.gl_scripts.proofs.sessions.record_all.Given as goal

-- the recorder stays that of its session
abbrev pub invariant-loop-event : goal.invariant-loop-event
invariant-loop-event l =
    (l.recorder.session ≡ l.initial.recorder.session) × (l.recorder.limits ≡ l.initial.recorder.limits) × (l.recorder.lane ≡ l.initial.recorder.lane)
