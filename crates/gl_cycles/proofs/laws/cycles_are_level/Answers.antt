use Rattle.gl_cycles.proofs.CyclesAreLevel.{cycle_is_level}
use Rattle.gl_cycles.proofs.laws.cycles_are_level.Goals as goal

pub returns : goal.returns
returns c = λ before mode len edges rank positions. cycle_is_level before mode edges rank len positions
