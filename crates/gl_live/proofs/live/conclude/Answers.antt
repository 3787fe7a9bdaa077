use Rattle.std.proofs.Common.{sym, subst}
use Rattle.std.specs.List.{All}
use Rattle.std.specs.Prelude.{IfErr, IfOk}
use Rattle.gl_edges.specs.Edges.{edges}
use Rattle.gl_findings.specs.Reports.{IsReportWith}
use Rattle.gl_live.specs.Faults.{IsLiveFault}
use Rattle.gl_live.specs.bodies.Rosters.{gathered_from, IsReceiptOf}
use Rattle.gl_live.proofs.live.conclude.Goals as goal

pub returns-in-Ok-settle_workers-clause-report : goal.returns-in-Ok-settle_workers-clause-report
returns-in-Ok-settle_workers-clause-report g c = λ lists threads receipts.
    subst (λ ls. IfOk c.report_settled.result (λ report. IsReportWith c.args.contents c.args.query.now (edges ls) ls report)) (c.in-Ok.ensures.lists lists threads (subst (All (IsReceiptOf (gathered_from c.args.ran.gathered) lists)) (sym c.as_mut_slice.ensures.value) receipts))
    (c.report_settled.ensures.report _ _ c.in-Ok.ensures.settled.settled c.in-Ok-settle_workers.ensures.tables)

pub returns-in-Ok-settle_workers-clause-fault : goal.returns-in-Ok-settle_workers-clause-fault
returns-in-Ok-settle_workers-clause-fault g c = λ lists threads receipts. subst (λ ls. IfErr c.report_settled.result (IsLiveFault ls)) (c.in-Ok.ensures.lists lists threads (subst (All (IsReceiptOf (gathered_from c.args.ran.gathered) lists)) (sym c.as_mut_slice.ensures.value) receipts)) c.report_settled.ensures.fault

pub returns-in-Ok-clause-fault : goal.returns-in-Ok-clause-fault
returns-in-Ok-clause-fault g c = λ lists threads receipts. c.in-Err-settle_workers.ensures.fault lists

pub returns-clause-fault : goal.returns-clause-fault
returns-clause-fault g c = λ lists threads receipts. c.in-Err.ensures.fault lists
