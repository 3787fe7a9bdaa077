-- the empty list ascends, without marks
use Rattle.std.specs.List.Sorted.{IsStrictlySortedBy}
use Rattle.gl_edges.proofs.guards.Guards.refill.Goals as goal

pub invariant_of-self-in-Err : goal.invariant_of-self-in-Err
unfolding IsStrictlySortedBy
invariant_of-self-in-Err c = rw c.clear.ensures.items (record { ascending = tt; marked = c.none-self-inside.ensures })
