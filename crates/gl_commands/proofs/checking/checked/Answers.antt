use Rattle.std.proofs.Common.{sym, ap, ◌∙◌}
use Rattle.std.proofs.lemmas.Result.{err_from_is_err_and}
use Rattle.gl_event.specs.Bounds.{greatest}
use Rattle.gl_std.specs.Trace.{trace_of}
use Rattle.gl_commands.proofs.Accepting.{answers_accepted, answers_bad, answers_refused}
use Rattle.gl_commands.proofs.checking.checked.Goals as goal

pub returns-in_err-trace-clause-refused : goal.returns-in_err-trace-clause-refused
returns-in_err-trace-clause-refused g c =
    let p = err_from_is_err_and c.from_residual.result c.from_residual.ensures.1 in
    rw (p.1, p.2) (answers_bad c.args.input.now c.split_input.result.1.now c.in_err-trace.field-0.0 c.split_input.ensures.trace c.in_err-trace.ensures.refused)

pub returns-clause-printed : goal.returns-clause-printed
returns-clause-printed g c =
    answers_accepted c.args.input.now c.in_ok-trace.trace c.split_input.result.0.now c.answer_of-answer.result c.split_input.ensures.report (ap (trace_of greatest) (sym c.split_input.ensures.trace) ∙ c.in_ok-trace.ensures.trace) c.answer_of-answer.ensures.printed

pub returns-clause-refused : goal.returns-clause-refused
returns-clause-refused g c =
    answers_refused c.args.input.now c.in_ok-trace.trace c.split_input.result.0.now c.answer_of-answer.result c.split_input.ensures.report (ap (trace_of greatest) (sym c.split_input.ensures.trace) ∙ c.in_ok-trace.ensures.trace) c.answer_of-answer.ensures.refused
