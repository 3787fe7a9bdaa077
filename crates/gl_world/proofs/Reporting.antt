-- The report of a state, from its logs and its tables.
use Rattle.std.proofs.Common.{◌≡◌, List, subst, Result, Ok, Err}
use Rattle.std.specs.Prelude.{IfOk, IfErr}
use Rattle.gl_event.specs.declared.events.Event.{Event}
use Rattle.gl_filters.specs.Asked.{Asked}
use Rattle.gl_edges.specs.declared.edge.Edge.{Edge}
use Rattle.gl_edges.specs.declared.edge.Sample.{Sample}
use Rattle.gl_cycles.specs.Reports.{IsReport, IsGoodlockReport, IsReportFault}
use Rattle.gl_cycles.specs.declared.found.Report.{Report}
use Rattle.gl_cycles.specs.declared.found.ReportFault.{ReportFault}
use Rattle.gl_world.specs.Machine.{State, taken_lists, IsDrained}
use Rattle.gl_world.specs.Keeping.{IsSound}
use Rattle.gl_world.specs.Headline.{collected_lists, worked_table, IsReportOf}
use Rattle.gl_world.proofs.Drained.{drained_report, drained_fault}

-- what a report of a drained state is
pub report_if : (s : State) → IsSound s → IsDrained s → (asked : Asked) (result : Result Report ReportFault) → IfOk result (λ report. IsReportOf asked s report)
    → IfOk result (λ report. IsGoodlockReport asked (taken_lists s.lanes) report)
report_if s sound drained asked (Ok report) is = drained_report s sound drained asked report is
report_if s sound drained asked (Err fault) is = tt

pub fault_if : (s : State) → IsSound s → IsDrained s → (result : Result Report ReportFault) → IfErr result (λ fault. IsReportFault (collected_lists s) fault)
    → IfErr result (λ fault. IsReportFault (taken_lists s.lanes) fault)
fault_if s sound drained (Ok report) is = tt
fault_if s sound drained (Err fault) is = drained_fault s sound drained fault is

-- the report over the merged tables, by the order of the logs, is that of the state
module _ (s : State) (pairs : List (Edge × Sample)) (lists : List (List Event)) (pairs_are : pairs ≡ worked_table s) (lists_are : lists ≡ collected_lists s) where
  pub reported : (asked : Asked) (result : Result Report ReportFault) → IfOk result (λ report. IsReport asked pairs lists report) → IfOk result (λ report. IsReportOf asked s report)
  reported asked result is =
      subst (λ ps. IfOk result (λ report. IsReport asked ps (collected_lists s) report)) pairs_are (subst (λ ls. IfOk result (λ report. IsReport asked pairs ls report)) lists_are is)

  pub faulted : (result : Result Report ReportFault) → IfErr result (λ fault. IsReportFault lists fault) → IfErr result (λ fault. IsReportFault (collected_lists s) fault)
  faulted result is = subst (λ ls. IfErr result (λ fault. IsReportFault ls fault)) lists_are is
