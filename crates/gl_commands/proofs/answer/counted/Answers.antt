use Rattle.std.proofs.Common.{refl}
use Rattle.std.proofs.lemmas.Result.{err_from_is_err_and}
use Rattle.gl_event.specs.Bounds.{greatest}
use Rattle.gl_findings.specs.declared.listing.Contents.TheVariants as only
use Rattle.gl_report.specs.Counts.{stats_of, stats_text}
use Rattle.gl_commands.specs.Answer.{IsAnswer, counts}
use Rattle.gl_commands.specs.Answer.Answer.{Prints, Refusal}
use Rattle.gl_commands.specs.bodies.Stops.{IsAnswerToEach, SaysWhyNoReport}
use Rattle.gl_commands.specs.declared.ended.Outcome.TheVariants.{Done}
use Rattle.gl_commands.proofs.Answering.{answered_as, no_report, refused_then, with_report}
use Rattle.gl_commands.proofs.answer.counted.Goals as goal

pub returns-in_err-trace : goal.returns-in_err-trace
returns-in_err-trace g c =
    let p = err_from_is_err_and c.from_residual.result c.from_residual.ensures.1 in
    let asked = counts c.args.query.now in
    rw (p.1, p.2) (refused_then c.in_err-trace.field-0.0 (SaysWhyNoReport c.args.read) (λ line. IsAnswerToEach (IsAnswer asked) c.args.read (Refusal line))
    (no_report greatest asked c.args.read) c.in_err-trace.ensures.refused)

pub returns : goal.returns
returns g c =
    let asked = counts c.args.query.now in
    let both = c.in_ok-trace.field-0 in
    let from = Prints (stats_text (stats_of both.trace both.report)) Done in
    answered_as (IsAnswer asked) c.args.read c.printed_counts-answer.result from c.printed_counts-answer.ensures.printed c.printed_counts-answer.ensures.memory
    (with_report greatest asked (λ report. Prints (stats_text (stats_of both.trace report)) Done) only.Cycles c.args.query.now c.args.read both.trace both.report c.in_ok-trace.ensures.report (λ before. refl))
