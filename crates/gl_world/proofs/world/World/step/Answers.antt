use Rattle.std.proofs.Common.{subst}
use Rattle.gl_world.specs.Keeping.{IsSound}
use Rattle.gl_world.proofs.Worlds.{limits_if_moved, count_if_moved, lanes_if_moved}
use Rattle.gl_world.proofs.world.World.step.Goals as goal

pub returns-clause-limits : goal.returns-clause-limits
returns-clause-limits c = limits_if_moved c.make.result c.args.self.now c.make.new.self c.args.next c.make.ensures.moved

pub returns-clause-shards : goal.returns-clause-shards
returns-clause-shards c = count_if_moved c.make.result c.args.self.now c.make.new.self c.args.next c.make.ensures.moved

pub returns-clause-lanes : goal.returns-clause-lanes
returns-clause-lanes c = lanes_if_moved c.make.result c.args.self.now c.make.new.self c.args.next (subst IsSound c.self.view_is c.self.invariant.sound) c.make.ensures.moved c.make.ensures.unchanged
