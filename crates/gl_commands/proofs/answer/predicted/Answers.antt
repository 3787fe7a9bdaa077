use Rattle.std.proofs.Common.{subst}
use Rattle.std.proofs.lemmas.Result.{err_from_is_err_and}
use Rattle.gl_event.specs.Bounds.{greatest}
use Rattle.gl_commands.specs.Answer.{IsAnswer, prediction}
use Rattle.gl_commands.specs.Answer.Answer.{Refusal}
use Rattle.gl_commands.specs.bodies.Needed.{contents_for}
use Rattle.gl_commands.specs.bodies.Stops.{IsAnswerToEach, IsReportOf, SaysWhyNoReport}
use Rattle.gl_commands.proofs.Answering.{answered_as, needs_no_more, no_report, print_of, refused_then, with_report}
use Rattle.gl_commands.proofs.answer.predicted.Goals as goal

pub returns-in_err-trace : goal.returns-in_err-trace
returns-in_err-trace g c =
    let p = err_from_is_err_and c.from_residual.result c.from_residual.ensures.1 in
    let asked = prediction c.args.listing c.args.query.now c.args.form in
    rw (p.1, p.2) (refused_then c.in_err-trace.field-0.0 (SaysWhyNoReport c.args.read) (λ line. IsAnswerToEach (IsAnswer asked) c.args.read (Refusal line))
    (no_report greatest asked c.args.read) c.in_err-trace.ensures.refused)

pub returns : goal.returns
returns g c =
    let asked = prediction c.args.listing c.args.query.now c.args.form in
    let both = c.in_ok-trace.field-0 in
    let from = print_of c.args.listing c.args.form both.trace.names in
    let needed = contents_for c.args.listing c.args.form in
    let of = subst (λ k. IsReportOf k c.args.query.now c.args.read both.trace both.report) c.contents_for-contents.ensures c.in_ok-trace.ensures.report in
    answered_as (IsAnswer asked) c.args.read c.printed_in-answer.result (from both.report) c.printed_in-answer.ensures.printed c.printed_in-answer.ensures.memory
    (with_report greatest asked from needed c.args.query.now c.args.read both.trace both.report of
    (λ before. needs_no_more c.args.listing c.args.form c.args.query.now before both.trace))
