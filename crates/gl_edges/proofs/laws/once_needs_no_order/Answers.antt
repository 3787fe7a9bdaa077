use Rattle.gl_edges.proofs.Least.{same_once}
use Rattle.gl_edges.proofs.Merging.{once_merged}
use Rattle.gl_edges.proofs.laws.once_needs_no_order.Goals as goal

pub returns-clause-order : goal.returns-clause-order
returns-clause-order c = λ xs ys to from. same_once xs ys to from

pub returns-clause-merged : goal.returns-clause-merged
returns-clause-merged c = λ xs ys. once_merged xs ys
