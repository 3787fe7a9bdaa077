use Rattle.gl_cycles.proofs.TrimsSpareCycles.{cycles_survive}
use Rattle.gl_cycles.proofs.laws.cycles_survive_trims.Goals as goal

pub returns : goal.returns
returns c = cycles_survive
