use Rattle.gl_world.specs.Dispatch.{ship_turn}
use Rattle.gl_world.specs.declared.steps.Step.TheVariants.{Ship}
use Rattle.gl_world.proofs.Worlds.{state_of, moved_if, world_if, grows_if, ship_is}
use Rattle.gl_world.proofs.world.World.ship.Goals as goal

pub invariant_of-self : goal.invariant_of-self
invariant_of-self c =
    world_if c.self.inside.limits c.self.inside.dispatcher c.self.inside.parts.items c.self.inside.intake.stream c.self.inside.intake.limits c.self.invariant Ship (ship_turn c.self.inside.limits c.self.inside.dispatcher)
    (ship_is (state_of c.self.inside.limits c.self.inside.dispatcher c.self.inside.parts.items c.self.inside.intake.stream)) c.ship.new.self c.ship.result c.ship.ensures.moved c.ship.ensures.answer c.ship.ensures.unchanged

pub returns-clause-moved : goal.returns-clause-moved
returns-clause-moved c =
    rw (← c.self.view_is)
    (moved_if c.self.inside.limits c.self.inside.dispatcher c.self.inside.parts.items c.self.inside.intake.stream c.self.inside.intake.limits c.self.invariant Ship (ship_turn c.self.inside.limits c.self.inside.dispatcher)
    (ship_is (state_of c.self.inside.limits c.self.inside.dispatcher c.self.inside.parts.items c.self.inside.intake.stream)) c.ship.new.self c.ship.result c.ship.ensures.moved c.ship.ensures.answer)

pub returns-clause-memory : goal.returns-clause-memory
returns-clause-memory c =
    rw (← c.self.view_is)
    (grows_if c.self.inside.limits c.self.inside.dispatcher c.self.inside.parts.items c.self.inside.intake.stream c.self.inside.intake.limits c.self.invariant Ship (ship_turn c.self.inside.limits c.self.inside.dispatcher)
    (ship_is (state_of c.self.inside.limits c.self.inside.dispatcher c.self.inside.parts.items c.self.inside.intake.stream)) c.ship.new.self c.ship.result c.ship.ensures.memory)
