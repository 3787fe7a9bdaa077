use Rattle.std.proofs.Common.{subst}
use Rattle.gl_cycles.specs.declared.found.Report.{Report}
use Rattle.gl_live.specs.Streamed.{Becomes, FailsInTime}
use Rattle.gl_commands.specs.Answer.{IsAnswerUnder}
use Rattle.gl_commands.specs.Sessions.{session_prediction}
use Rattle.gl_commands.specs.bodies.Needed.{contents_of}
use Rattle.gl_commands.specs.bodies.Stops.{EndsUnwritten}
use Rattle.gl_commands.proofs.Answering.{memory_alone}
use Rattle.gl_commands.proofs.AsItComes.{ends_without_memory}
use Rattle.gl_commands.proofs.streamed.answered.Goals as goal

pub returns-in-Ok-clause-printed : goal.returns-in-Ok-clause-printed
returns-in-Ok-clause-printed c = λ limits turns input became.
    c.printed_of.ensures.printed limits turns input (subst (Becomes (contents_of c.args.options.now) c.args.options.now.query limits turns input c.args.items) c.in-Ok.is became)

pub returns-in-Ok-clause-stopped : goal.returns-in-Ok-clause-stopped
returns-in-Ok-clause-stopped c = λ limits turns input became in_time.
    let A = IsAnswerUnder limits (session_prediction c.args.options.now) in
    memory_alone c.printed_of.result (EndsUnwritten limits A turns input) c.printed_of.ensures.memory (ends_without_memory limits A turns input)

pub returns-in-Err-clause-stopped : goal.returns-in-Err-clause-stopped
returns-in-Err-clause-stopped c = λ limits turns input became in_time.
    c.end_without_report.ensures.ends limits turns input (subst (Becomes (contents_of c.args.options.now) c.args.options.now.query limits turns input c.args.items) c.in-Err.is became)
    (subst (FailsInTime {Y = Report} input.before input.after c.args.items) c.in-Err.is in_time)
