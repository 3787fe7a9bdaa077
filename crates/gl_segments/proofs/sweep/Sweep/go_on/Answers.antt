use Rattle.std.proofs.Common.{Some, ap, ◌∙◌}
use Rattle.gl_segments.specs.declared.rows.Row.TheVariants.{Waiting, Begun}
use Rattle.gl_segments.proofs.sweep.Sweep.go_on.Goals as goal

pub begin-requires-clause-front : goal.begin-requires-clause-front
begin-requires-clause-front c = c.requires.sweeps.swept.rows c.args.thread (Waiting c.in-Waiting.front) (c.take.ensures.taken ∙ ap Some c.in-Waiting.is)

pub grow-requires-clause-growing : goal.grow-requires-clause-growing
grow-requires-clause-growing c = c.requires.sweeps.swept.rows c.args.thread (Begun c.in-Begun.growing) (c.take.ensures.taken ∙ ap Some c.in-Begun.is)
