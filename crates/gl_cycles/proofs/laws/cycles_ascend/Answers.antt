use Rattle.gl_cycles.proofs.CyclesAscend as lists
use Rattle.gl_cycles.proofs.laws.cycles_ascend.Goals as goal

pub returns : goal.returns
returns c = lists.cycles_ascend
