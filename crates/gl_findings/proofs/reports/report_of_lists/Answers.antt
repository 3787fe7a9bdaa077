use Rattle.std.proofs.Common.{sym, subst}
use Rattle.std.specs.Prelude.{IfOk}
use Rattle.gl_event.specs.Lawful.{lists_of}
use Rattle.gl_findings.specs.Reports.{IsReportOf}
use Rattle.gl_findings.specs.declared.listing.Listing.{Listing}
use Rattle.gl_findings.proofs.reports.report_of_lists.Goals as goal

pub returns-in-Cycles-clause-report : goal.returns-in-Cycles-clause-report
returns-in-Cycles-clause-report c = subst (λ (listing : Listing). IfOk c.report_of_lists.result (IsReportOf listing c.args.query.now (lists_of c.args.lists.now))) (sym c.in-Cycles.is) c.report_of_lists.ensures.report

pub returns-in-Findings-clause-report : goal.returns-in-Findings-clause-report
returns-in-Findings-clause-report c = subst (λ (listing : Listing). IfOk c.findings_of_lists.result (IsReportOf listing c.args.query.now (lists_of c.args.lists.now))) (sym c.in-Findings.is) c.findings_of_lists.ensures.report
