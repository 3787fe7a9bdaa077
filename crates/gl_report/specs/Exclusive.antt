-- Edges and reports of exclusive locks alone: format 1 shows no lock modes, and stands for these.
use Rattle.std.specs.Prelude.{◌≡◌, Bool, true, false, ◌&&◌, All}
use Rattle.std.specs.List.{list_all}
use Rattle.gl_event.specs.declared.events.LockMode.{LockMode}
use Rattle.gl_event.specs.declared.events.LockMode.TheVariants.{Exclusive, Shared}
use Rattle.gl_edges.specs.declared.edge.Edge.{Edge}
use Rattle.gl_filters.specs.Picked.{edges_of_table, picked}
use Rattle.gl_cycles.specs.declared.found.Report.{Report}

-- the mode is exclusive
abbrev pub is_exclusive_mode : LockMode → Bool
is_exclusive_mode Exclusive = true
is_exclusive_mode Shared = false

-- the edge is of exclusive locks alone
abbrev pub is_exclusive : Edge → Bool
is_exclusive e =
    is_exclusive_mode e.held_mode
    && (is_exclusive_mode e.wanted_mode
    && list_all (λ guard. is_exclusive_mode guard.mode) e.guards)

-- so is each edge of each listed cycle
abbrev pub ListsExclusive : Report → Type 0
ListsExclusive report =
    All (λ cycle. All (λ edge. is_exclusive edge ≡ true)
    (picked (edges_of_table report.edges) cycle)) report.found.cycles
