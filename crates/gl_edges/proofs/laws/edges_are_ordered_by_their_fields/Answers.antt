use Rattle.gl_edges.proofs.Orders.{edge_cmp_total, edge_cmp_exact}
use Rattle.gl_edges.proofs.laws.edges_are_ordered_by_their_fields.Goals as goal

pub returns-clause-total : goal.returns-clause-total
returns-clause-total c = edge_cmp_total

pub returns-clause-exact : goal.returns-clause-exact
returns-clause-exact c = edge_cmp_exact
