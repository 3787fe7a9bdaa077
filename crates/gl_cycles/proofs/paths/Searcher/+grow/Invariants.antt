use Rattle.std.proofs.Common.{◌+◌, ◌-◌, ◌*◌, length, map}
use Rattle.std.specs.Prelude.{unwrap_or}
use Rattle.gl_segments.specs.Clocks.{is_before}
use Rattle.gl_filters.specs.Picked.{edges_of_table, picked}
use Rattle.gl_index.specs.Indexes.{held_lock, both_locks}
use Rattle.gl_cycles.proofs.EdgesOfPaths.{wanted_after, held_first}
use Rattle.gl_cycles.proofs.PathsGrow.{HasGrownTo}
use Rattle.gl_cycles.proofs.paths.Searcher.+grow.Given as goal

-- how many more edges the path may have; a call for the last edge, and one for one follower, come between two lengths
abbrev pub decreases-grow : goal.decreases-grow
decreases-grow l = 3 * (l.limit - length l.path.now) + 2

abbrev pub decreases-close : goal.decreases-close
decreases-close l = 3 * (l.limit - length l.path.now) + 1

abbrev pub decreases-grow_by : goal.decreases-grow_by
decreases-grow_by l = 3 * (l.limit - length l.path.now)

-- what lies below the followers before the next one was found
abbrev pub invariant-grow-loop-next : goal.invariant-grow-loop-next
invariant-grow-loop-next l =
    HasGrownTo (is_before l.self.order.now) l.self.mode (edges_of_table l.self.table.now) (l.limit - length l.path - 1) l.path l.self.cap
    held_lock (wanted_after (picked (edges_of_table l.self.table.now) l.path))
    (map (λ cycle. cycle.items) l.initial.found.items) (map (λ cycle. cycle.items) l.found.items) l.next

-- how many positions are left
abbrev pub decreases-grow-loop-next : goal.decreases-grow-loop-next
decreases-grow-loop-next l = length l.self.table.now - unwrap_or l.next (length l.self.table.now)

-- the same of the edges that close the path
abbrev pub invariant-close-loop-next : goal.invariant-close-loop-next
invariant-close-loop-next l =
    HasGrownTo (is_before l.self.order.now) l.self.mode (edges_of_table l.self.table.now) (l.limit - length l.path - 1) l.path l.self.cap
    both_locks (wanted_after (picked (edges_of_table l.self.table.now) l.path), held_first (picked (edges_of_table l.self.table.now) l.path))
    (map (λ cycle. cycle.items) l.initial.found.items) (map (λ cycle. cycle.items) l.found.items) l.next

abbrev pub decreases-close-loop-next : goal.decreases-close-loop-next
decreases-close-loop-next l = length l.self.table.now - unwrap_or l.next (length l.self.table.now)
