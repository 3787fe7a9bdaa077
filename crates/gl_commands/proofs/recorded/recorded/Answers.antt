use Rattle.std.proofs.Common.{List, ℕ, inl, sym, subst}
use Rattle.std.proofs.lemmas.Result.{err_from_is_err_and}
use Rattle.gl_event.specs.Bounds.{greatest}
use Rattle.gl_commands.specs.Answer.{IsAnswer}
use Rattle.gl_commands.specs.Sessions.{session_prediction}
use Rattle.gl_commands.specs.Answer.Answer.{Refusal}
use Rattle.gl_commands.specs.bodies.Stops.{IsAnswerToEach, IsAnsweredInSession, IsFaultIn}
use Rattle.gl_commands.proofs.Answering.{no_report, refused_then, stopped_by}
use Rattle.gl_commands.proofs.recorded.recorded.Goals as goal

pub returns-in_err-trace : goal.returns-in_err-trace
returns-in_err-trace g c =
    let p = err_from_is_err_and c.from_residual.result c.from_residual.ensures.1 in
    let asked = session_prediction c.args.options.now in
    let refuses : List ℕ → Type 0 = λ line. IsAnswerToEach (IsAnswer asked) c.args.read (Refusal line) in
    rw (p.1, p.2) (stopped_by c.in_err-trace.field-0.0 refuses (refused_then c.in_err-trace.field-0.0 (IsFaultIn c.args.read) refuses (λ line fault. no_report greatest asked c.args.read line (inl fault)) c.in_err-trace.ensures.refused))

pub returns : goal.returns
returns g c =
    subst (λ read. IsAnsweredInSession (IsAnswer (session_prediction c.args.options.now)) read c.session_answer-answer.result) (sym c.in_ok-trace.ensures.trace) c.session_answer-answer.ensures
