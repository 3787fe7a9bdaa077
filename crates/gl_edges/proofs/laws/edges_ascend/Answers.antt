use Rattle.gl_edges.specs.Edges.{edges_made}
use Rattle.gl_edges.proofs.Tables.{once_ascends}
use Rattle.gl_edges.proofs.laws.edges_ascend.Goals as goal

pub returns : goal.returns
returns c = λ lists. once_ascends (edges_made lists)
