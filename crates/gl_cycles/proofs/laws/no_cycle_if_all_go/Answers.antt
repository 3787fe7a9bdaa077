use Rattle.gl_cycles.proofs.TrimsSpareCycles.{none_if_all_go}
use Rattle.gl_cycles.proofs.laws.no_cycle_if_all_go.Goals as goal

pub returns : goal.returns
returns c = none_if_all_go
