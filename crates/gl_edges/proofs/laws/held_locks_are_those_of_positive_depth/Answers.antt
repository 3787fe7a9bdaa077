use Rattle.gl_edges.proofs.Membership.{held_where_deep, deep_where_held}
use Rattle.gl_edges.proofs.Holding.{held_ascends, guard_from, guard_has}
use Rattle.gl_edges.proofs.laws.held_locks_are_those_of_positive_depth.Goals as goal

pub returns-clause-members : goal.returns-clause-members
returns-clause-members c = λ es lock. (deep_where_held es lock, held_where_deep es lock)

pub returns-clause-ascending : goal.returns-clause-ascending
returns-clause-ascending c = λ es. held_ascends es

pub returns-clause-guards : goal.returns-clause-guards
returns-clause-guards c = λ es guard. (guard_from es guard, λ is. guard_has es guard is.0 is.1)
