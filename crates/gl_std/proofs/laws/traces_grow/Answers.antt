use Rattle.gl_std.proofs.Growth.{trace_of_grows}
use Rattle.gl_std.proofs.laws.traces_grow.Goals as goal

pub returns : goal.returns
returns c = trace_of_grows
