use Rattle.gl_edges.proofs.MadeFirst.{edge_was_made, made_edge_is_there}
use Rattle.gl_edges.proofs.laws.edges_are_those_made.Goals as goal

pub returns : goal.returns
returns c = λ lists edge. (edge_was_made lists edge, made_edge_is_there lists edge)
