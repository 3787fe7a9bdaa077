use Rattle.std.proofs.Common.{subst}
use Rattle.gl_intake.specs.Stream.{AreInOrder}
use Rattle.gl_world.specs.Machine.{State}
use Rattle.gl_world.proofs.world.World.stream.Goals as goal

pub returns-clause-in_order : goal.returns-clause-in_order
returns-clause-in_order c = subst (λ (s : State). AreInOrder s.limits s.stream) c.self.view_is c.self.invariant.sound.in_order
