use Rattle.std.proofs.Common.{sym, ap, ◌∙◌, subst}
use Rattle.std.specs.Prelude.{IfOk}
use Rattle.gl_edges.specs.Edges.{edges}
use Rattle.gl_event.specs.Lawful.{lists_of}
use Rattle.gl_edges.proofs.Filling.{once_of_none}
use Rattle.gl_findings.specs.Reports.{IsReportWith}
use Rattle.gl_live.proofs.live.report_of_none.Goals as goal

pub returns-clause-report : goal.returns-clause-report
returns-clause-report g c =
    subst (λ pairs. IfOk c.report_with_contents.result (λ report. IsReportWith c.args.contents c.args.query.now pairs (lists_of c.args.lists.now) report)) (c.new.ensures ∙ sym once_of_none ∙ sym (ap (λ vecs. edges (lists_of vecs)) c.requires.none)) c.report_with_contents.ensures.report
