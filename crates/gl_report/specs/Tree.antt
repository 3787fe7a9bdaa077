-- The report as JSON of format 2: which values stand under which keys.
use Rattle.std.specs.Prelude.{ℕ, List, map, Option, None, Some, codes}
use Rattle.serde_json.specs.Data.{Data, null, unsigned, boolean, number, string, array, object, member, no_members}
use Rattle.serde_json.specs.View.{items_of}
use Rattle.gl_event.specs.declared.events.LockMode.{LockMode}
use Rattle.gl_event.specs.declared.events.LockMode.TheVariants.{Exclusive, Shared}
use Rattle.gl_filters.specs.Asked.{mode_name}
use Rattle.gl_std.specs.Names.{NameLists}
use Rattle.gl_edges.specs.declared.edge.Edge.{Edge}
use Rattle.gl_edges.specs.declared.edge.Sample.{Sample}
use Rattle.gl_edges.specs.declared.guards.Guard.{Guard}
use Rattle.gl_cycles.specs.declared.found.Report.{Report}
use Rattle.gl_report.specs.Escapes.{escaped}
use Rattle.gl_report.specs.Text.{name_of}

-- the name with this number, escaped
abbrev pub name_tree : List (List ℕ) → ℕ → Data
name_tree names which = string (escaped (name_of names which))

-- the names of guard locks
abbrev pub guards_tree : NameLists → List Guard → Data
guards_tree names guards = array (items_of (map (λ guard. name_tree names.locks guard.lock) guards))

-- the letter for the mode of a lock
abbrev pub lock_mode_letter : LockMode → List ℕ
lock_mode_letter Exclusive = codes "x"
lock_mode_letter Shared = codes "s"

-- the mode of a lock
abbrev pub lock_mode_tree : LockMode → Data
lock_mode_tree mode = string (lock_mode_letter mode)

-- the modes in which guard locks are held
abbrev pub guard_modes_tree : List Guard → Data
guard_modes_tree guards = array (items_of (map (λ guard. lock_mode_tree guard.mode) guards))

-- an edge, with where it was seen
unfoldable pub edge_tree : NameLists → Edge × Sample → Data
edge_tree names pair =
    object (member (codes "first") (number (unsigned pair.0.first))
    (member (codes "guard_modes") (guard_modes_tree pair.0.guards)
    (member (codes "guards") (guards_tree names pair.0.guards)
    (member (codes "held") (name_tree names.locks pair.0.held)
    (member (codes "held_at") (name_tree names.locs pair.1.held_loc)
    (member (codes "held_mode") (lock_mode_tree pair.0.held_mode)
    (member (codes "place") (number (unsigned pair.1.place))
    (member (codes "second") (number (unsigned pair.0.second))
    (member (codes "thread") (name_tree names.threads pair.0.thread)
    (member (codes "wanted") (name_tree names.locks pair.0.wanted)
    (member (codes "wanted_at") (name_tree names.locs pair.1.wanted_loc)
    (member (codes "wanted_mode") (lock_mode_tree pair.0.wanted_mode) no_members))))))))))))

-- positions of edges, in order: a cycle, or a trim order
unfoldable pub positions_tree : List ℕ → Data
positions_tree positions = array (items_of (map (λ position. number (unsigned position)) positions))

-- the order in which trimming takes away all edges, or null where it doesn't
abbrev pub trim_tree : Option (List ℕ) → Data
trim_tree None = null
trim_tree (Some removed) = positions_tree removed

-- the whole report: each edge once, and cycles as the positions of their edges
unfoldable pub report_tree : NameLists → Report → Data
report_tree names report =
    object (member (codes "cycles") (array (items_of (map positions_tree report.found.cycles)))
    (member (codes "edges") (array (items_of (map (edge_tree names) report.edges)))
    (member (codes "format") (number (unsigned 2))
    (member (codes "len") (number (unsigned report.query.len))
    (member (codes "max") (number (unsigned report.query.max))
    (member (codes "mode") (string (mode_name report.query.mode))
    (member (codes "more") (boolean report.found.more)
    (member (codes "trim") (trim_tree report.trim) no_members))))))))
