use Rattle.gl_findings.proofs.Told.{each_is_cycle}
use Rattle.gl_findings.proofs.laws.findings_are_cycles.Goals as goal

pub returns : goal.returns
returns c = λ before mode len table. each_is_cycle before mode len table
