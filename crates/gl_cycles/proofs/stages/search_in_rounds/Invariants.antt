use Rattle.std.proofs.Common.{map}
use Rattle.gl_segments.specs.Clocks.{is_before}
use Rattle.gl_filters.specs.Picked.{edges_of_table}
use Rattle.gl_sought.specs.OffCycles.{KeepsCycles}
use Rattle.gl_cycles.specs.bodies.Searching.{HasFound}
use Rattle.gl_cycles.proofs.stages.search_in_rounds.Given as goal

-- only edges that are in no cycle are left out, and the cycles that begin with edges before the root were found
abbrev pub invariant-loop-turn : goal.invariant-loop-turn
invariant-loop-turn l =
    KeepsCycles (is_before l.sought.order.now) l.sought.mode l.sought.len (edges_of_table l.sought.table.now) l.kept.items
    × HasFound l.sought l.cap l.standing.root (map (λ cycle. cycle.items) l.found.items)
