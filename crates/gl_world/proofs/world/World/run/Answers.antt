use Rattle.std.proofs.Common.{ap, ◌∙◌, take, length, subst}
use Rattle.gl_world.specs.Machine.{State}
use Rattle.gl_world.specs.Keeping.{IsSound}
use Rattle.gl_world.proofs.Lists.{get_at}
use Rattle.gl_world.proofs.Worlds.{run_next, run_limits, run_count, run_lanes, grows_at}
use Rattle.gl_world.proofs.world.World.run.Goals as goal

pub loop-place-preserved : goal.loop-place-preserved
loop-place-preserved c =
    run_next c.args.self.now c.loop-place.self c.step.new.self c.args.steps.now c.loop-place.place c.index-steps-place.result c.in-Ok.field-0 c.loop-place.invariant
    (get_at c.args.steps.now c.loop-place.place c.index-steps-place.result c.loop-place-test.true c.index-steps-place.is) c.in-Ok.ensures.moved

pub returns-in-Err-clause-limits : goal.returns-in-Err-clause-limits
returns-in-Err-clause-limits c =
    ap (λ (s : State). s.limits) c.in-Err.ensures.unchanged ∙ ap (λ (s : State). s.limits) c.loop-place.invariant ∙ run_limits c.args.self.now (take c.loop-place.place c.args.steps.now)

pub returns-clause-limits : goal.returns-clause-limits
returns-clause-limits c = ap (λ (s : State). s.limits) c.loop-place.invariant ∙ run_limits c.args.self.now (take c.loop-place.place c.args.steps.now)

pub returns-in-Err-clause-shards : goal.returns-in-Err-clause-shards
returns-in-Err-clause-shards c =
    ap (λ (s : State). length s.dispatch.shards) c.in-Err.ensures.unchanged ∙ ap (λ (s : State). length s.dispatch.shards) c.loop-place.invariant ∙ run_count c.args.self.now (take c.loop-place.place c.args.steps.now)

pub returns-clause-shards : goal.returns-clause-shards
returns-clause-shards c = ap (λ (s : State). length s.dispatch.shards) c.loop-place.invariant ∙ run_count c.args.self.now (take c.loop-place.place c.args.steps.now)

pub returns-clause-lanes : goal.returns-clause-lanes
returns-clause-lanes c = run_lanes c.args.self.now (subst IsSound c.self.view_is c.self.invariant.sound) (take c.loop-place.place c.args.steps.now) c.loop-place.self c.loop-place.invariant

pub returns-in-Err-clause-memory : goal.returns-in-Err-clause-memory
returns-in-Err-clause-memory c = λ next at.
    grows_at c.loop-place.self c.step.new.self c.args.steps.now c.loop-place.place c.index-steps-place.result next c.in-Err.ensures.unchanged
    (get_at c.args.steps.now c.loop-place.place c.index-steps-place.result c.loop-place-test.true c.index-steps-place.is) at c.in-Err.ensures.memory
