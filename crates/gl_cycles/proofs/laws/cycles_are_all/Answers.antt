use Rattle.gl_cycles.proofs.AmongAllCycles.{there_is_cycle, cycle_is_there}
use Rattle.gl_cycles.proofs.laws.cycles_are_all.Goals as goal

pub returns : goal.returns
returns c = λ before mode len edges positions. (there_is_cycle before mode len edges positions, cycle_is_there before mode len edges positions)
