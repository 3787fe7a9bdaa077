use Rattle.gl_world.specs.Dispatch.{work_turn}
use Rattle.gl_world.specs.declared.steps.Step.TheVariants.{Work}
use Rattle.gl_world.proofs.Worlds.{state_of, moved_if, world_if, grows_if, work_is_step}
use Rattle.gl_world.proofs.world.World.work.Goals as goal

pub invariant_of-self : goal.invariant_of-self
invariant_of-self c =
    world_if c.self.inside.limits c.self.inside.dispatcher c.self.inside.parts.items c.self.inside.intake.stream c.self.inside.intake.limits c.self.invariant (Work c.args.shard) (work_turn c.self.inside.dispatcher c.args.shard)
    (work_is_step (state_of c.self.inside.limits c.self.inside.dispatcher c.self.inside.parts.items c.self.inside.intake.stream) c.args.shard) c.work.new.self c.work.result c.work.ensures.moved c.work.ensures.answer c.work.ensures.unchanged

pub returns-clause-moved : goal.returns-clause-moved
returns-clause-moved c =
    rw (← c.self.view_is)
    (moved_if c.self.inside.limits c.self.inside.dispatcher c.self.inside.parts.items c.self.inside.intake.stream c.self.inside.intake.limits c.self.invariant (Work c.args.shard) (work_turn c.self.inside.dispatcher c.args.shard)
    (work_is_step (state_of c.self.inside.limits c.self.inside.dispatcher c.self.inside.parts.items c.self.inside.intake.stream) c.args.shard) c.work.new.self c.work.result c.work.ensures.moved c.work.ensures.answer)

pub returns-clause-memory : goal.returns-clause-memory
returns-clause-memory c =
    rw (← c.self.view_is)
    (grows_if c.self.inside.limits c.self.inside.dispatcher c.self.inside.parts.items c.self.inside.intake.stream c.self.inside.intake.limits c.self.invariant (Work c.args.shard) (work_turn c.self.inside.dispatcher c.args.shard)
    (work_is_step (state_of c.self.inside.limits c.self.inside.dispatcher c.self.inside.parts.items c.self.inside.intake.stream) c.args.shard) c.work.new.self c.work.result c.work.ensures.memory)
