use Rattle.gl_event.specs.Lawful.{lists_of}
use Rattle.gl_findings.proofs.reports.findings_of_lists.Goals as goal

pub returns-in-Err-clause-fault : goal.returns-in-Err-clause-fault
returns-in-Err-clause-fault c = c.no_report.ensures.fault (lists_of c.args.lists.now) c.in-Err.ensures.fault
