use Rattle.std.proofs.Common.{◌-◌, length}
use Rattle.std.specs.Prelude.{unwrap_or}
use Rattle.gl_filters.specs.Picked.{edges_of_table}
use Rattle.gl_grounds.specs.Passing.{stay, IsNextLed}
use Rattle.gl_grounds.proofs.passages.Passages.add_from.Given as goal

-- those that were passed are led to only by classes that may, and what might pass still may
abbrev pub invariant-loop-next : goal.invariant-loop-next
invariant-loop-next l = IsNextLed (edges_of_table l.table) l.classes l.flags l.self l.i l.next × stay l.initial.self l.self

-- how many positions are left to look at
abbrev pub decreases-loop-next : goal.decreases-loop-next
decreases-loop-next l = length l.table - unwrap_or l.next (length l.table)
