use Rattle.std.proofs.Common.{Err, ap, subst}
use Rattle.gl_cycles.specs.declared.found.Report.{Report}
use Rattle.gl_live.specs.Streamed.{FailsInTime, IsReportOfTold}
use Rattle.gl_commands.specs.Answer.{IsAnswerUnder}
use Rattle.gl_commands.specs.Sessions.{session_prediction}
use Rattle.gl_commands.specs.bodies.Needed.{contents_of}
use Rattle.gl_commands.proofs.AsItComes.{ends_at_fault, ends_unconfirmed, ends_without_memory}
use Rattle.gl_commands.proofs.streamed.end_without_report.Goals as goal

pub returns-in-Text-clause-ends : goal.returns-in-Text-clause-ends
returns-in-Text-clause-ends c = λ limits turns input became in_time.
    ends_at_fault (session_prediction c.args.options.now) limits turns input c.args.items became.text became.told c.in-Text.fault c.end_of_text.result became.tells
    (subst (IsReportOfTold (contents_of c.args.options.now) c.args.options.now.query c.args.items became.told) (ap (λ e. Err e) c.in-Text.is) became.reports) c.end_of_text.ensures

pub returns-in-Session-Memory-clause-ends : goal.returns-in-Session-Memory-clause-ends
returns-in-Session-Memory-clause-ends c = λ limits turns input became in_time. ends_without_memory limits (IsAnswerUnder limits (session_prediction c.args.options.now)) turns input

pub returns-in-Session-Unconfirmed-clause-ends : goal.returns-in-Session-Unconfirmed-clause-ends
returns-in-Session-Unconfirmed-clause-ends c = λ limits turns input became in_time.
    ends_unconfirmed limits (IsAnswerUnder limits (session_prediction c.args.options.now)) turns input c.args.items became.text became.told became.tells
    (subst (FailsInTime {Y = Report} input.before input.after c.args.items) (ap (λ e. Err e) c.in-Session-Unconfirmed.is) in_time)
