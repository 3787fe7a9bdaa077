use Rattle.gl_check.proofs.Telling.{none_twice}
use Rattle.gl_check.proofs.laws.listed_findings_differ.Goals as goal

pub returns : goal.returns
returns c = λ trace before report is. none_twice report.edges report.found.cycles is.ascend
