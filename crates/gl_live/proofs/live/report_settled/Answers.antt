use Rattle.std.proofs.Common.{subst}
use Rattle.std.specs.Prelude.{IfErr, IfOk}
use Rattle.gl_findings.specs.Reports.{IsReportWith}
use Rattle.gl_live.specs.Faults.{IsLiveFault}
use Rattle.gl_live.proofs.live.report_settled.Goals as goal

pub returns-clause-report : goal.returns-clause-report
returns-clause-report g c = λ receipts sent is tables.
    subst (λ pairs. IfOk c.report_with_contents.result (λ report. IsReportWith c.args.contents c.args.query.now pairs c.args.settled report)) (c.in-Ok.ensures.recorded receipts sent is tables)
    (subst (λ lists. IfOk c.report_with_contents.result (λ report. IsReportWith c.args.contents c.args.query.now c.in-Ok.edges lists report)) c.lists.ensures.value c.report_with_contents.ensures.report)

pub returns-clause-fault : goal.returns-clause-fault
returns-clause-fault g c = subst (λ lists. IfErr c.report_with_contents.result (IsLiveFault lists)) c.lists.ensures.value c.report_with_contents.ensures.fault
