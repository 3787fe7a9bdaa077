use Rattle.gl_world.proofs.Drained.{stays_sound}
use Rattle.gl_world.proofs.laws.every_step_keeps_a_state_sound.Goals as goal

pub returns : goal.returns
returns c = stays_sound
