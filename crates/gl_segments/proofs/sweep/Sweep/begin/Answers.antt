use Rattle.gl_segments.proofs.Sweeping.{last_apart}
use Rattle.gl_segments.proofs.sweep.Sweep.begin.Goals as goal

pub fork-requires-clause-apart : goal.fork-requires-clause-apart
fork-requires-clause-apart c = last_apart c.args.steps.now c.args.thread 0 c.in_ok-growing.growing c.in_ok-growing.ensures.0 c.in_ok-growing.ensures.1
