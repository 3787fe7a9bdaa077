use Rattle.std.proofs.Common.{◌<◌, length, Some, sym, ap, ◌∙◌, arith}
use Rattle.std.proofs.lemmas.Option.{slice_get-get_or}
use Rattle.gl_grounds.proofs.RunnerSteps.{run_still}
use Rattle.gl_grounds.proofs.runners.add_runner.Goals as goal

pub returns-clause-stay : goal.returns-clause-stay
returns-clause-stay c = λ other t run.
    let runners = c.args.runners.now.items in
    let within : c.args.class < length runners = omega (arith, c.if-class-len.false, c.len.ensures, c.args.runners.now.ok.0) in
    run_still t c.args.class other runners c.index.result.now c.with_thread.result within (slice_get-get_or runners c.args.class c.index.result.now within ∙ ap Some (sym c.index.ensures)) (c.with_thread.ensures.stay t) run
