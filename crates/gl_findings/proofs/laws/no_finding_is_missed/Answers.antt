use Rattle.gl_findings.proofs.Told.{none_is_missed}
use Rattle.gl_findings.proofs.laws.no_finding_is_missed.Goals as goal

pub returns : goal.returns
returns c = λ before mode len table. none_is_missed before mode len table
