use Rattle.gl_world.proofs.Drained.{every_drained, reports_hide, loops_hide}
use Rattle.gl_world.proofs.laws.every_drained_schedule_reports_what_was_taken.Goals as goal

pub returns-clause-taken : goal.returns-clause-taken
returns-clause-taken c = every_drained

pub returns-clause-reports : goal.returns-clause-reports
returns-clause-reports c = reports_hide

pub returns-clause-loops : goal.returns-clause-loops
returns-clause-loops c = loops_hide
