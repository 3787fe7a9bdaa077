use Rattle.std.proofs.Common.{inl, inr, sym, subst}
use Rattle.std.proofs.lemmas.Result.{err_from_is_err_and}
use Rattle.gl_commands.proofs.Answering.{refused_then}
use Rattle.gl_commands.specs.bodies.Stops.{IsFaultIn, IsLoopOf, IsReportOf, SaysWhyNoReport}
use Rattle.gl_commands.proofs.answer.trace_and_report.Goals as goal

pub returns-in_err-trace-clause-refused : goal.returns-in_err-trace-clause-refused
returns-in_err-trace-clause-refused g c =
    let p = err_from_is_err_and c.from_residual.result c.from_residual.ensures.1 in
    rw (p.1, p.2) (refused_then c.in_err-trace.field-0.0 (IsFaultIn c.args.read) (SaysWhyNoReport c.args.read) (λ line fault. inl fault) c.in_err-trace.ensures.refused)

pub returns-in-Err-clause-refused : goal.returns-in-Err-clause-refused
returns-in-Err-clause-refused g c =
    refused_then c.in-Err.ended (IsLoopOf c.in_ok-trace.trace) (SaysWhyNoReport c.args.read) (λ line loop. inr (c.in_ok-trace.trace, c.in_ok-trace.ensures.trace, loop)) c.in-Err.ensures.refused

pub returns-in-Ok-clause-report : goal.returns-in-Ok-clause-report
returns-in-Ok-clause-report g c =
    subst (λ read. IsReportOf c.args.contents c.args.query.now read c.in_ok-trace.trace c.in-Ok.report) (sym c.in_ok-trace.ensures.trace) c.in-Ok.ensures.report
