use Rattle.gl_cycles.proofs.ReportsAreUnique.{reports_agree, loops_agree, none_of_loops}
use Rattle.gl_cycles.proofs.laws.reports_are_unique.Goals as goal

pub returns-clause-report : goal.returns-clause-report
returns-clause-report c = reports_agree

pub returns-clause-segment : goal.returns-clause-segment
returns-clause-segment c = loops_agree

pub returns-clause-either : goal.returns-clause-either
returns-clause-either c = none_of_loops
