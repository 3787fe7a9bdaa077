use Rattle.std.proofs.Common.{◌≡◌, Ok, inr, refl, subst}
use Rattle.std.specs.Prelude.{IfOk}
use Rattle.std.proofs.lemmas.Result.{err_from_is_err_and}
use Rattle.gl_event.specs.Bounds.{greatest}
use Rattle.gl_commands.specs.Answer.{IsAnswer}
use Rattle.gl_commands.specs.Sessions.{listing_asked, session_prediction}
use Rattle.gl_commands.specs.bodies.Needed.{contents_of}
use Rattle.gl_commands.specs.Answer.Answer.{Prints, Refusal}
use Rattle.gl_commands.specs.bodies.Stops.{IsAnswerToEach, IsLoopOf}
use Rattle.gl_commands.proofs.Answering.{answered_as, answered_in, needs_no_more, no_report, print_of, stopped_then, with_session}
use Rattle.gl_commands.proofs.recorded.session_answer.Goals as goal

pub returns-in_err-report : goal.returns-in_err-report
returns-in_err-report g c =
    let p = err_from_is_err_and c.from_residual.result c.from_residual.ensures.1 in
    let asked = session_prediction c.args.options.now in
    let trace = c.args.trace.now in
    rw (p.1, p.2) (stopped_then c.in_err-report.field-0.0 (IsLoopOf trace) (λ line. IsAnswerToEach (IsAnswer asked) (Ok trace) (Refusal line))
    (λ line loop. no_report greatest asked (Ok trace) line (inr (trace, refl, loop))) c.in_err-report.ensures.refused)

pub returns : goal.returns
returns g c =
    let listing = listing_asked c.args.options.now in
    let query = c.args.options.now.query in
    let form = c.args.options.now.form in
    let asked = session_prediction c.args.options.now in
    let trace = c.args.trace.now in
    let report = c.in_ok-report.report in
    let answer = c.printed_in-answer.result in
    let is = subst (λ l. IfOk answer (λ p. Prints p.text.items p.outcome ≡ print_of l form trace.names report)) c.listing_of-listing.ensures c.printed_in-answer.ensures.printed in
    answered_in (IsAnswer asked) (Ok trace) answer
    (answered_as (IsAnswer asked) (Ok trace) answer (print_of listing form trace.names report) is c.printed_in-answer.ensures.memory
    (with_session greatest asked (print_of listing form trace.names) (contents_of c.args.options.now) query (Ok trace) trace report refl c.in_ok-report.ensures.report
    (λ before. needs_no_more listing form query before trace)))
