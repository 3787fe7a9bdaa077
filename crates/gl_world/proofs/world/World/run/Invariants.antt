use Rattle.std.proofs.Common.{◌≡◌, take}
use Rattle.gl_world.specs.Machine.{run}
use Rattle.gl_world.proofs.world.World.run.Given as goal

-- the steps so far are done
abbrev pub invariant-loop-place : goal.invariant-loop-place
invariant-loop-place l = l.self ≡ run l.fn.self (take l.place l.steps)
