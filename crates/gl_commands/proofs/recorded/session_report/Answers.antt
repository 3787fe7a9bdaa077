use Rattle.std.proofs.Common.{subst}
use Rattle.gl_edges.specs.Edges.{edges}
use Rattle.gl_findings.specs.Reports.{IsReportWith}
use Rattle.gl_commands.proofs.recorded.session_report.Goals as goal

pub returns-in-Ok-clause-report : goal.returns-in-Ok-clause-report
returns-in-Ok-clause-report g c =
    let asked = c.args.options.now.query in
    let said = subst (λ lists. IsReportWith c.contents_of-contents.result asked (edges lists) lists c.in-Ok.report) c.as_slice-lists.ensures c.in-Ok.ensures.report in
    subst (λ contents. IsReportWith contents asked (edges c.args.trace.now.lists) c.args.trace.now.lists c.in-Ok.report) c.contents_of-contents.ensures said
