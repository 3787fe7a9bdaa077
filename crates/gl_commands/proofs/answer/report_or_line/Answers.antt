use Rattle.std.proofs.Common.{◌≡◌, refl, ap, subst, ◌∙◌}
use Rattle.std.specs.Prelude.{IfErr, IfOk, OnOk}
use Rattle.std.proofs.lemmas.Result.{err_from_is_err_and}
use Rattle.gl_edges.specs.Edges.{edges}
use Rattle.gl_findings.specs.Reports.{report_with}
use Rattle.gl_segments.specs.Clocks.{is_before, OrdersBy}
use Rattle.gl_segments.specs.Segments.{IsConsistent}
use Rattle.gl_commands.specs.bodies.Stops.{IfRefused, IsLoopOf}
use Rattle.gl_commands.proofs.answer.report_or_line.Goals as goal

pub returns-in_err-order-clause-refused : goal.returns-in_err-order-clause-refused
returns-in_err-order-clause-refused g c =
    let p = err_from_is_err_and c.from_residual.result c.from_residual.ensures.1 in
    rw (p.1, p.2) (subst (λ r. IfErr r (λ ended. IfRefused ended (IsLoopOf c.args.trace.now))) c.in_err-order.was c.order_and_edges-order.ensures.refused)

pub returns-in_err-edges-clause-refused : goal.returns-in_err-edges-clause-refused
returns-in_err-edges-clause-refused g c =
    let p = err_from_is_err_and c.from_residual-in_err-edges.result c.from_residual-in_err-edges.ensures.1 in
    rw (p.1, p.2) tt

pub returns-in_err-report-clause-refused : goal.returns-in_err-report-clause-refused
returns-in_err-report-clause-refused g c =
    let p = err_from_is_err_and c.from_residual-in_err-report.result c.from_residual-in_err-report.ensures.1 in
    rw (p.1, p.2) tt

pub returns-clause-report : goal.returns-clause-report
returns-clause-report g c =
    let lists = c.args.trace.now.lists in
    let both = c.order_and_edges-order.ensures in
    let by = report_with c.args.contents c.args.query.now (is_before c.in_ok-order.order) in
    let found = subst (λ r. IfOk r (λ es. es ≡ edges lists)) c.in_ok-edges.was both.edges in
    record {
      is_read = refl;
      before = is_before c.in_ok-order.order;
      consistent = subst (λ r. OnOk r (IsConsistent lists)) c.in_ok-order.was both.consistent;
      decides = subst (λ r. IfOk r (OrdersBy lists)) c.in_ok-order.was both.order;
      is_report = c.in_ok-report.ensures ∙ ap by found;
    }
