-- What a pull answers is what was pulled.
use Rattle.std.proofs.Common.{◌<◌, Ok, Err, length, ap, ◌∙◌, arith}
use Rattle.gl_c.proofs.Pulls.{broken_pull, empty_pull, end_pull, event_pull, memory_pull}
use Rattle.gl_c.specs.Pulling.{IsStillThat}
use Rattle.gl_c.proofs.pulling.pull_one.Goals as goal

pub returns-in-Ok-Empty-clause-none : goal.returns-in-Ok-Empty-clause-none
returns-in-Ok-Empty-clause-none c =
    let known : c.args.thread < length c.args.running.now.collector.inputs = omega arith in
    let still : IsStillThat c.args.running.now.collector c.pull.new.self = record { limits = c.pull.ensures.limits; session = c.pull.ensures.session; lanes = c.pull.ensures.lanes } in
    empty_pull c.args.thread c.args.running.now.collector c.pull.new.self still known c.pull.result c.pull.ensures.tells (c.in-Ok-Empty.is ∙ ap Ok c.in-Ok-Empty.field-0-is)

pub returns-in-Ok-Event-clause-one : goal.returns-in-Ok-Event-clause-one
returns-in-Ok-Event-clause-one c =
    let known : c.args.thread < length c.args.running.now.collector.inputs = omega arith in
    let still : IsStillThat c.args.running.now.collector c.pull.new.self = record { limits = c.pull.ensures.limits; session = c.pull.ensures.session; lanes = c.pull.ensures.lanes } in
    event_pull c.args.thread c.args.running.now.collector c.pull.new.self still known c.pull.result c.pull.ensures.tells c.in-Ok-Event.field-0-0 (c.in-Ok-Event.is ∙ ap Ok c.in-Ok-Event.field-0-is)

pub returns-in-Ok-Ended-clause-one : goal.returns-in-Ok-Ended-clause-one
returns-in-Ok-Ended-clause-one c =
    let known : c.args.thread < length c.args.running.now.collector.inputs = omega arith in
    let still : IsStillThat c.args.running.now.collector c.pull.new.self = record { limits = c.pull.ensures.limits; session = c.pull.ensures.session; lanes = c.pull.ensures.lanes } in
    end_pull c.args.thread c.args.running.now.collector c.pull.new.self still known c.pull.result c.pull.ensures.tells c.in-Ok-Ended.field-0-0 (c.in-Ok-Ended.is ∙ ap Ok c.in-Ok-Ended.field-0-is)

pub returns-in-Err-Memory-clause-none : goal.returns-in-Err-Memory-clause-none
returns-in-Err-Memory-clause-none c =
    let known : c.args.thread < length c.args.running.now.collector.inputs = omega arith in
    let still : IsStillThat c.args.running.now.collector c.pull.new.self = record { limits = c.pull.ensures.limits; session = c.pull.ensures.session; lanes = c.pull.ensures.lanes } in
    memory_pull c.args.thread c.args.running.now.collector c.pull.new.self still known c.pull.result c.pull.ensures.tells (c.in-Err-Memory.is ∙ ap Err c.in-Err-Memory.field-0-is)

pub returns-in-Err-Broken-clause-none : goal.returns-in-Err-Broken-clause-none
returns-in-Err-Broken-clause-none c =
    let known : c.args.thread < length c.args.running.now.collector.inputs = omega arith in
    let still : IsStillThat c.args.running.now.collector c.pull.new.self = record { limits = c.pull.ensures.limits; session = c.pull.ensures.session; lanes = c.pull.ensures.lanes } in
    broken_pull c.args.thread c.args.running.now.collector c.pull.new.self still known c.pull.result c.pull.ensures.tells c.in-Err-Broken.field-0-0 (c.in-Err-Broken.is ∙ ap Err c.in-Err-Broken.field-0-is)
