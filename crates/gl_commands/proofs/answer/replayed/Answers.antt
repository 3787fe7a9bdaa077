use Rattle.std.proofs.Common.{◌∙◌}
use Rattle.std.proofs.lemmas.Result.{err_from_is_err_and}
use Rattle.gl_commands.specs.Answer.{IsPlainAnswer, replay}
use Rattle.gl_commands.specs.Answer.Answer.{Refusal}
use Rattle.gl_commands.specs.Answer.IsPlainAnswer.{plain}
use Rattle.gl_commands.specs.bodies.Stops.{IsAnswerToEach, IsFaultIn}
use Rattle.gl_commands.proofs.Answering.{answered_as, no_trace, refused_then}
use Rattle.gl_commands.proofs.answer.replayed.Goals as goal

pub returns-in_err-trace : goal.returns-in_err-trace
returns-in_err-trace c =
    let p = err_from_is_err_and c.from_residual.result c.from_residual.ensures.1 in
    rw (p.1, p.2) (refused_then c.in_err-trace.field-0.0 (IsFaultIn c.args.read) (λ line. IsAnswerToEach (IsPlainAnswer replay) c.args.read (Refusal line))
    (no_trace replay c.args.read) c.in_err-trace.ensures.refused)

pub returns : goal.returns
returns c =
    answered_as (IsPlainAnswer replay) c.args.read c.printed_trace-answer.result (replay c.in_ok-trace.trace) c.printed_trace-answer.ensures.printed c.printed_trace-answer.ensures.memory
    (λ text is. plain c.in_ok-trace.trace (is ∙ c.in_ok-trace.ensures.trace))
