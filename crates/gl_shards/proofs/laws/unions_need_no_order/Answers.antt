use Rattle.gl_shards.proofs.Uniting.{union_of_once, union_permuted}
use Rattle.gl_shards.proofs.laws.unions_need_no_order.Goals as goal

pub returns-clause-whole : goal.returns-clause-whole
returns-clause-whole c = union_of_once

pub returns-clause-order : goal.returns-clause-order
returns-clause-order c = union_permuted
