use Rattle.gl_std.proofs.WithinLimits.{trace_of_over}
use Rattle.gl_std.proofs.laws.traces_obey_limits.Goals as goal

pub returns : goal.returns
returns c = trace_of_over
