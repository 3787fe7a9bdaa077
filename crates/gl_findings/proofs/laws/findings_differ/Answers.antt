use Rattle.gl_findings.proofs.Told.{none_is_twice}
use Rattle.gl_findings.proofs.laws.findings_differ.Goals as goal

pub returns : goal.returns
returns c = λ before mode len table. none_is_twice before mode len table
