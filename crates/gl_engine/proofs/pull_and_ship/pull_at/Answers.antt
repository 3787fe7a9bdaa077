use Rattle.std.proofs.Common.{◌<◌, length, arith}
use Rattle.std.proofs.lemmas.Result.{IfOk-weaker, IfErr-weaker}
use Rattle.gl_world.proofs.Lists.{get_at}
use Rattle.gl_engine.specs.bodies.Breaking.{IsKeptFor, IsPullFault, TellsTaken}
use Rattle.gl_engine.specs.bodies.Whole.{HasMoved}
use Rattle.gl_engine.proofs.Running.{kept_later, lanes_later, grown_later, blamed_now, moved_by}
use Rattle.gl_engine.proofs.pull_and_ship.pull_at.Goals as goal

pub returns-clause-pulls_on : goal.returns-clause-pulls_on
returns-clause-pulls_on c =
    let here = rw c.number.ensures at c.index_mut-input.ensures.value in
    let within : c.args.thread < length c.args.inputs.now.items = omega (arith, c.requires.known, c.requires.keeps.inputs_are.count) in
    let tells = c.pull_with_edges-pulled.ensures.pull in
    let input_at = get_at c.args.inputs.now.items c.args.thread c.index_mut-input.result.now within here in
    let cause = c.pull_with_edges-pulled.ensures.cause (c.requires.keeps.inputs_are.cause c.args.thread c.index_mut-input.result.now input_at) in
    record {
      keeps = rw c.number.ensures
          (kept_later c.args.intake.now.limits c.args.inputs.now.items c.args.intake.now.stream c.requires.keeps c.args.thread c.index_mut-input.result.now c.pull_with_edges-pulled.new.self within here
          c.pull_with_edges-pulled.new.intake.stream cause c.pull_with_edges-pulled.result tells);
      added = c.pull_with_edges-pulled.ensures.added;
      limits = c.pull_with_edges-pulled.ensures.limits;
      lanes = rw c.number.ensures
          (lanes_later c.args.intake.now.limits c.args.inputs.now.items c.args.intake.now.stream c.requires.keeps c.args.thread c.index_mut-input.result.now c.pull_with_edges-pulled.new.self within here
          c.pull_with_edges-pulled.new.intake.stream cause c.pull_with_edges-pulled.result tells);
      grown = grown_later c.args.intake.now.limits c.args.inputs.now.items c.args.intake.now.stream c.requires.keeps c.args.thread c.index_mut-input.result.now c.pull_with_edges-pulled.new.self within here
          c.pull_with_edges-pulled.new.intake.stream cause c.pull_with_edges-pulled.result tells;
      blamed = rw c.number.ensures
          (IfErr-weaker c.has_pulled.result (IsKeptFor c.args.thread c.pull_with_edges-pulled.result) (IsPullFault c.args.thread c.args.intake.now.limits _ c.pull_with_edges-pulled.new.intake.stream)
          (blamed_now c.args.intake.now.limits c.args.inputs.now.items c.args.intake.now.stream c.requires.keeps c.args.thread c.index_mut-input.result.now c.pull_with_edges-pulled.new.self within here
          c.pull_with_edges-pulled.new.intake.stream cause c.pull_with_edges-pulled.result tells)
          c.has_pulled.ensures.fault);
    }

pub returns-clause-moved : goal.returns-clause-moved
returns-clause-moved c =
    let here = rw c.number.ensures at c.index_mut-input.ensures.value in
    let within : c.args.thread < length c.args.inputs.now.items = omega (arith, c.requires.known, c.requires.keeps.inputs_are.count) in
    let tells = c.pull_with_edges-pulled.ensures.pull in
    let input_at = get_at c.args.inputs.now.items c.args.thread c.index_mut-input.result.now within here in
    let cause = c.pull_with_edges-pulled.ensures.cause (c.requires.keeps.inputs_are.cause c.args.thread c.index_mut-input.result.now input_at) in
    IfOk-weaker c.has_pulled.result (TellsTaken c.pull_with_edges-pulled.result) (HasMoved c.args.intake.now.stream c.pull_with_edges-pulled.new.intake.stream)
    (moved_by c.args.intake.now.limits c.args.inputs.now.items c.args.intake.now.stream c.requires.keeps c.args.thread c.index_mut-input.result.now c.pull_with_edges-pulled.new.self within here
    c.pull_with_edges-pulled.new.intake.stream cause c.pull_with_edges-pulled.result tells)
    c.has_pulled.ensures.taken
