use Rattle.std.proofs.Common.{◌∙◌}
use Rattle.gl_live.proofs.Rostered.{recorded_closed}
use Rattle.gl_live.proofs.recording.close_wait.Goals as goal

pub returns-in-Ok-clause-all : goal.returns-in-Ok-clause-all
returns-in-Ok-clause-all g c = recorded_closed c.loop.recorder c.in-Ok.receipt c.in-Ok.ensures.closed ∙ c.loop.invariant.1
