use Rattle.std.proofs.Common.{◌<◌, length, subst, sym, arith}
use Rattle.gl_world.proofs.Lists.{get_at}
use Rattle.gl_event.specs.Bounds.{Bounds}
use Rattle.gl_engine.specs.Collecting.{Collecting}
use Rattle.gl_engine.specs.Dealing.{made_by}
use Rattle.gl_engine.specs.Keeping.{BreaksForCause}
use Rattle.gl_engine.proofs.Sides.{collector_after, pull_tells, lanes_still}
use Rattle.gl_engine.proofs.collector.Collector.pull.Goals as goal

pub invariant_of-self : goal.invariant_of-self
invariant_of-self c =
    let here = rw c.number.ensures at c.index_mut-input.ensures.value in
    let known : c.args.thread < c.self.inside.limits.threads = subst (λ (s : Collecting). c.args.thread < s.limits.threads) (sym c.self.view_is) c.requires.known in
    let within : c.args.thread < length c.self.inside.inputs.items = omega (arith, known, c.self.invariant.inputs_are.count) in
    let input_at = get_at c.self.inside.inputs.items c.args.thread c.index_mut-input.result.now within here in
    let before = subst (λ (b : Bounds). BreaksForCause b c.args.thread c.self.inside.intake.stream c.index_mut-input.result.now) (sym c.self.invariant.same_limits) (c.self.invariant.inputs_are.cause c.args.thread c.index_mut-input.result.now input_at) in
    let cause = subst (λ (b : Bounds). BreaksForCause b c.args.thread c.pull.new.intake.stream c.pull.new.self) c.self.invariant.same_limits (c.pull.ensures.cause before) in
    rw (c.number.ensures, c.pull.ensures.limits)
    (collector_after c.self.inside.limits c.self.inside.inputs.items c.self.inside.intake.stream (made_by c.self.inside.intake.stream) c.self.inside.intake.limits c.self.invariant
    c.args.thread c.index_mut-input.result.now c.pull.new.self within here c.pull.new.intake.stream (made_by c.pull.new.intake.stream) cause c.pull.result c.pull.ensures.pull)

pub returns-clause-tells : goal.returns-clause-tells
returns-clause-tells c =
    let here = rw c.number.ensures at c.index_mut-input.ensures.value in
    let known : c.args.thread < c.self.inside.limits.threads = subst (λ (s : Collecting). c.args.thread < s.limits.threads) (sym c.self.view_is) c.requires.known in
    let within : c.args.thread < length c.self.inside.inputs.items = omega (arith, known, c.self.invariant.inputs_are.count) in
    rw c.number.ensures
    (pull_tells c.self.inside.limits c.self.inside.inputs.items c.self.inside.intake.stream (made_by c.self.inside.intake.stream) c.self.inside.intake.limits c.self.invariant
    c.args.thread c.index_mut-input.result.now c.pull.new.self within here c.pull.new.intake.stream (made_by c.pull.new.intake.stream)
    c.self.inside.session c.pull.result c.pull.ensures.pull c.args.self.now c.self.view_is)

pub returns-clause-lanes : goal.returns-clause-lanes
returns-clause-lanes c =
    let here = rw c.number.ensures at c.index_mut-input.ensures.value in
    let known : c.args.thread < c.self.inside.limits.threads = subst (λ (s : Collecting). c.args.thread < s.limits.threads) (sym c.self.view_is) c.requires.known in
    let within : c.args.thread < length c.self.inside.inputs.items = omega (arith, known, c.self.invariant.inputs_are.count) in
    rw (c.number.ensures, ← c.self.view_is)
    (lanes_still c.self.inside.limits c.self.inside.inputs.items c.self.inside.intake.stream (made_by c.self.inside.intake.stream) c.self.inside.intake.limits c.self.invariant
    c.args.thread c.index_mut-input.result.now c.pull.new.self within here c.pull.new.intake.stream (made_by c.pull.new.intake.stream) c.pull.result c.pull.ensures.pull)
