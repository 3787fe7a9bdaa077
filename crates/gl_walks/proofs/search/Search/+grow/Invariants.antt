use Rattle.std.proofs.Common.{◌+◌, ◌-◌, ◌*◌, ◌≤◌, length}
use Rattle.std.specs.Prelude.{unwrap_or}
use Rattle.gl_walks.specs.bodies.Fronts.{sought_by, HasPassed}
use Rattle.gl_walks.proofs.search.Search.+grow.Given as goal

-- how many more edges the path has to have; a call for one edge comes between two lengths
abbrev pub decreases-grow : goal.decreases-grow
decreases-grow l = 2 * (length l.pattern.now - length l.path.now) + 1

abbrev pub decreases-grow_by : goal.decreases-grow_by
decreases-grow_by l = 2 * (length l.pattern.now - length l.path.now)

-- no walk goes on with a position before the next one, and no step was given back
abbrev pub invariant-grow-loop-next : goal.invariant-grow-loop-next
invariant-grow-loop-next l = HasPassed (sought_by l.self.area l.purpose l.pattern) l.path l.next × (l.steps ≤ l.initial.steps)

-- how many positions are left
abbrev pub decreases-grow-loop-next : goal.decreases-grow-loop-next
decreases-grow-loop-next l = length l.self.area.table.now - unwrap_or l.next (length l.self.area.table.now)
