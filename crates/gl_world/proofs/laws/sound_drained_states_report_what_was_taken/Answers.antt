use Rattle.gl_world.proofs.Drained.{every_sound_drained}
use Rattle.gl_world.proofs.laws.sound_drained_states_report_what_was_taken.Goals as goal

pub returns : goal.returns
returns c = every_sound_drained
