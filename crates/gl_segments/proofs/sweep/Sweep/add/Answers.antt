use Rattle.gl_segments.proofs.Sweeping.{last_apart}
use Rattle.gl_segments.proofs.sweep.Sweep.add.Goals as goal

pub fork-requires-clause-apart : goal.fork-requires-clause-apart
fork-requires-clause-apart c = last_apart c.args.steps.now c.args.thread c.args.growing.now.segments c.make_next_clock.new.growing c.in_ok-make_next_clock.ensures.growing c.in_ok-make_next_clock.ensures.more
