use Rattle.std.proofs.Common.{[], ◌∷◌}
use Rattle.gl_edges.proofs.Filling.{once_of_none, once_before}
use Rattle.gl_shards.proofs.Uniting.{filled_is_once, once_permuted}
use Rattle.gl_shards.proofs.laws.tables_need_no_order.Goals as goal

pub returns-clause-nothing : goal.returns-clause-nothing
returns-clause-nothing c = once_of_none

pub returns-clause-one_more : goal.returns-clause-one_more
returns-clause-one_more c = λ pairs pair. once_before pairs (pair ∷ [])

pub returns-clause-filled : goal.returns-clause-filled
returns-clause-filled c = filled_is_once

pub returns-clause-order : goal.returns-clause-order
returns-clause-order c = once_permuted
