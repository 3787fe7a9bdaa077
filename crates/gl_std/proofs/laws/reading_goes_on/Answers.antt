use Rattle.gl_std.proofs.WithinLimits.{trace_of-append}
use Rattle.gl_std.proofs.laws.reading_goes_on.Goals as goal

pub returns : goal.returns
returns c = trace_of-append
