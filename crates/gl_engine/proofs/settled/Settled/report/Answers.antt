use Rattle.std.proofs.Common.{◌∙◌, subst}
use Rattle.std.specs.Prelude.{IfOk}
use Rattle.gl_cycles.specs.Reports.{IsReport}
use Rattle.gl_engine.proofs.settled.Settled.report.Goals as goal

pub returns-clause-recorded : goal.returns-clause-recorded
returns-clause-recorded g c receipts sent settled are =
    subst (λ pairs. IfOk c.report_over_parallel.result (λ report. IsReport c.args.query.now pairs c.args.self.now report)) (c.in_ok-edges.ensures.recorded receipts sent settled are)
    (subst (λ lists. IfOk c.report_over_parallel.result (λ report. IsReport c.args.query.now c.in_ok-edges.edges lists report)) (c.logs.ensures.value ∙ c.self.view_is) c.report_over_parallel.ensures.report)
