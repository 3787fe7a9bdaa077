-- the empty list ascends, without marks
use Rattle.std.specs.List.Sorted.{IsStrictlySortedBy}
use Rattle.gl_edges.proofs.guards.Guards.empty.Goals as goal

pub invariant_of-result : goal.invariant_of-result
unfolding IsStrictlySortedBy
invariant_of-result c = rw c.new.ensures.items (record { ascending = tt; marked = c.none.ensures })
