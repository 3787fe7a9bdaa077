use Rattle.std.proofs.Common.{Bool, [], ◌∙◌, sym, subst, ap}
use Rattle.std.proofs.lemmas.Result.{err_from_is_err_and}
use Rattle.gl_event.specs.Bounds.{Bounds}
use Rattle.gl_std.specs.Streaming.{HasTold}
use Rattle.gl_std.specs.Trace.{nothing}
use Rattle.gl_commands.specs.Answer.{IsAnswerUnder}
use Rattle.gl_commands.specs.Sessions.{session_prediction}
use Rattle.gl_io.specs.Uses.{used}
use Rattle.gl_options.specs.Sessions.{with_threads}
use Rattle.gl_commands.proofs.AsItComes.{ends_without_memory}
use Rattle.gl_commands.proofs.streamed.streamed.Goals as goal

pub returns-in_err-items-clause-stopped : goal.returns-in_err-items-clause-stopped
returns-in_err-items-clause-stopped g c =
    let p = err_from_is_err_and c.from_residual.result c.from_residual.ensures.1 in
    let limits = with_threads c.args.options.now.threads in
    rw (p.1, p.2) (ends_without_memory limits (IsAnswerUnder limits (session_prediction c.args.options.now)) c.args.reading.now.turns
    (used (g.I.Source.position c.args.input.now) (g.I.Source.position c.args.input.now) (g.I.Source.failed c.args.input.now)))

pub stream_report_with-reported-requires-clause-unread : goal.stream_report_with-reported-requires-clause-unread
stream_report_with-reported-requires-clause-unread g c κs within =
    let start = g.I.Source.position c.args.input.now in
    record {
      limits = c.of_session-limits.result;
      turns = c.args.reading.now.turns;
      start = start;
      as_many = ap (λ (b : Bounds). b.threads) c.of_session-limits.ensures ∙ sym c.stream_of-session.ensures.threads;
      tells = subst (λ (failed : Bool). HasTold c.of_session-limits.result c.args.reading.now.turns (used start start failed) c.in_ok-items.items [] nothing) (sym c.requires.readable) (c.in_ok-items.ensures.tells start);
    }

pub returns-clause-printed : goal.returns-clause-printed
returns-clause-printed g c =
    let limits = with_threads c.args.options.now.threads in
    let start = g.I.Source.position c.args.input.now in
    let told = subst (λ (b : Bounds). HasTold b c.args.reading.now.turns (used start start (g.I.Source.failed c.args.input.now)) c.in_ok-items.items [] nothing) c.of_session-limits.ensures
    (subst (λ (failed : Bool). HasTold c.of_session-limits.result c.args.reading.now.turns (used start start failed) c.in_ok-items.items [] nothing) (sym c.requires.readable) (c.in_ok-items.ensures.tells start)) in
    c.answered.ensures.printed limits c.args.reading.now.turns (used start (g.I.Source.position c.stream_report_with-reported.new.input) (g.I.Source.failed c.stream_report_with-reported.new.input)) (rw c.contents_of-contents.ensures at (c.stream_report_with-reported.ensures.becomes limits c.args.reading.now.turns start (sym c.stream_of-session.ensures.threads) told))

pub returns-clause-stopped : goal.returns-clause-stopped
returns-clause-stopped g c =
    let limits = with_threads c.args.options.now.threads in
    let start = g.I.Source.position c.args.input.now in
    let told = subst (λ (b : Bounds). HasTold b c.args.reading.now.turns (used start start (g.I.Source.failed c.args.input.now)) c.in_ok-items.items [] nothing) c.of_session-limits.ensures
    (subst (λ (failed : Bool). HasTold c.of_session-limits.result c.args.reading.now.turns (used start start failed) c.in_ok-items.items [] nothing) (sym c.requires.readable) (c.in_ok-items.ensures.tells start)) in
    c.answered.ensures.stopped limits c.args.reading.now.turns (used start (g.I.Source.position c.stream_report_with-reported.new.input) (g.I.Source.failed c.stream_report_with-reported.new.input)) (rw c.contents_of-contents.ensures at (c.stream_report_with-reported.ensures.becomes limits c.args.reading.now.turns start (sym c.stream_of-session.ensures.threads) told))
    c.stream_report_with-reported.ensures.in_time
