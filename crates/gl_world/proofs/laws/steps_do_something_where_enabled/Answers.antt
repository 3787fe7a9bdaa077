use Rattle.gl_world.proofs.Enabling.{steps_where_enabled}
use Rattle.gl_world.proofs.laws.steps_do_something_where_enabled.Goals as goal

pub returns : goal.returns
returns c = steps_where_enabled
