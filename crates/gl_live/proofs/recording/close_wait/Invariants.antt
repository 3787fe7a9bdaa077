use Rattle.std.proofs.Common.{◌≡◌}
use Rattle.gl_engine.specs.Recording.{recorded, identity_of}
use Rattle.gl_live.proofs.recording.close_wait.Given as goal

-- the lane was full so far, and the recorder is as it was
abbrev pub invariant-loop : goal.invariant-loop
invariant-loop g l =
    (identity_of l.recorder ≡ identity_of l.fn.recorder)
    × (recorded l.recorder ≡ recorded l.fn.recorder)
    × (goal.iterator-loop g).can_next l.iterator'
    × (goal.iterator-loop g).is_finite l.iterator'
