-- the empty list ascends
use Rattle.std.specs.List.Sorted.{IsStrictlySortedBy}
use Rattle.gl_edges.proofs.list.EdgeList.new.Goals as goal

pub invariant_of-result : goal.invariant_of-result
unfolding IsStrictlySortedBy
invariant_of-result c = rw c.new.ensures.items tt
