use Rattle.std.proofs.Common.{Ok}
use Rattle.gl_std.specs.bodies.Stepping.{fuel, IsStep}
use Rattle.gl_std.proofs.line_reader.LineReader.next.Given as goal

abbrev pub invariant-loop-step : goal.invariant-loop-step
invariant-loop-step g l = IsStep (g.R.Source.position l.initial.input) l.initial.self (g.R.Source.position l.input) (g.R.Source.failed l.input) l.self (Ok l.step)

abbrev pub decreases-loop-step : goal.decreases-loop-step
decreases-loop-step g l = fuel l.self
