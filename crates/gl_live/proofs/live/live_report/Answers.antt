use Rattle.std.proofs.lemmas.Result.{IfOk-weaker}
use Rattle.gl_cycles.specs.Reports.{IsGoodlockReport}
use Rattle.gl_edges.specs.Edges.{edges}
use Rattle.gl_findings.specs.Reports.{IsReportWith}
use Rattle.gl_findings.specs.declared.listing.Contents.TheVariants.{CyclesAndTrim}
use Rattle.gl_event.specs.Lawful.{lists_of}
use Rattle.gl_live.proofs.live.live_report.Goals as goal

pub returns-clause-report : goal.returns-clause-report
returns-clause-report g c =
    let lists = lists_of c.args.lists.now in
    IfOk-weaker c.live_report_with.result (λ report. IsReportWith CyclesAndTrim c.args.query.now (edges lists) lists report) (λ report. IsGoodlockReport c.args.query.now lists report)
    (λ report is. record { consistent = is.consistent; before = is.before; decides = is.decides; is = is.is }) c.live_report_with.ensures.report
