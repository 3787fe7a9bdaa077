use Rattle.std.proofs.Common.{◌-◌, ◌≤◌, length}
use Rattle.std.specs.Prelude.{unwrap_or}
use Rattle.gl_walks.specs.bodies.Fronts.{sought_by, HasPassedFrom}
use Rattle.gl_walks.proofs.search.Search.has_from.Given as goal

-- no walk begins with a position before the next one, and no step was given back
abbrev pub invariant-loop-next : goal.invariant-loop-next
invariant-loop-next l = HasPassedFrom (sought_by l.self.area l.purpose l.pattern) l.fn.lock l.next × (l.steps ≤ l.initial.steps)

-- how many positions are left
abbrev pub decreases-loop-next : goal.decreases-loop-next
decreases-loop-next l = length l.self.area.table.now - unwrap_or l.next (length l.self.area.table.now)
