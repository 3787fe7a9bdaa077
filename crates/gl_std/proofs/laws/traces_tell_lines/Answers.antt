use Rattle.gl_std.proofs.KeptLines.{trace_of-kept}
use Rattle.gl_std.proofs.laws.traces_tell_lines.Goals as goal

pub returns : goal.returns
returns c = trace_of-kept
