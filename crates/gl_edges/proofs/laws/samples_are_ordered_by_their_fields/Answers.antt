use Rattle.gl_edges.proofs.Orders.{sample_cmp_total, sample_cmp_exact}
use Rattle.gl_edges.proofs.laws.samples_are_ordered_by_their_fields.Goals as goal

pub returns-clause-total : goal.returns-clause-total
returns-clause-total c = sample_cmp_total

pub returns-clause-exact : goal.returns-clause-exact
returns-clause-exact c = sample_cmp_exact
