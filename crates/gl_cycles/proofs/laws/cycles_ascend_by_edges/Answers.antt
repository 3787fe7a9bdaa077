use Rattle.gl_cycles.proofs.OrderByEdges as lists
use Rattle.gl_cycles.proofs.laws.cycles_ascend_by_edges.Goals as goal

pub returns : goal.returns
returns c = lists.cycles_ascend_by_edges
