use Rattle.std.proofs.Common.{◌≡◌}
use Rattle.gl_engine.specs.Recording.{identity_of}
use Rattle.gl_engine_tests.proofs.closing.close_one.Given as goal

-- the recorder stays that of its thread
abbrev pub invariant-loop-event : goal.invariant-loop-event
invariant-loop-event l = identity_of l.recorder ≡ identity_of l.fn.recorder
