use Rattle.gl_std.proofs.FirstFaults.{trace_of-fault}
use Rattle.gl_std.proofs.laws.faults_come_first.Goals as goal

pub returns : goal.returns
returns c = trace_of-fault
