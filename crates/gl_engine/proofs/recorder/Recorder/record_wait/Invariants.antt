use Rattle.std.proofs.Common.{◌≡◌}
use Rattle.gl_engine.proofs.recorder.Recorder.record_wait.Given as goal

-- nothing changes while the lane is full
abbrev pub invariant-loop : goal.invariant-loop
invariant-loop g l =
    (l.self ≡ l.initial.self)
    × (goal.iterator-loop g).can_next l.iterator'
    × (goal.iterator-loop g).is_finite l.iterator'
