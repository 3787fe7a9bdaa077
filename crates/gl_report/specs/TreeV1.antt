-- The report as JSON of format 1, which shows the edges of cycles alone, and no lock modes.
use Rattle.std.specs.Prelude.{ℕ, List, map, slice_get, codes}
use Rattle.std.specs.List.{filter_map}
use Rattle.serde_json.specs.Data.{Data, unsigned, boolean, number, string, array, object, member, no_members}
use Rattle.serde_json.specs.View.{items_of}
use Rattle.gl_filters.specs.Asked.{mode_name}
use Rattle.gl_std.specs.Names.{NameLists}
use Rattle.gl_edges.specs.declared.edge.Edge.{Edge}
use Rattle.gl_edges.specs.declared.edge.Sample.{Sample}
use Rattle.gl_cycles.specs.declared.found.Report.{Report}
use Rattle.gl_report.specs.Tree.{name_tree, guards_tree}

-- an edge, with where it was seen
unfoldable pub edge_tree_v1 : NameLists → Edge × Sample → Data
edge_tree_v1 names pair =
    object (member (codes "first") (number (unsigned pair.0.first))
    (member (codes "guards") (guards_tree names pair.0.guards)
    (member (codes "held") (name_tree names.locks pair.0.held)
    (member (codes "held_at") (name_tree names.locs pair.1.held_loc)
    (member (codes "place") (number (unsigned pair.1.place))
    (member (codes "second") (number (unsigned pair.0.second))
    (member (codes "thread") (name_tree names.threads pair.0.thread)
    (member (codes "wanted") (name_tree names.locks pair.0.wanted)
    (member (codes "wanted_at") (name_tree names.locs pair.1.wanted_loc) no_members)))))))))

-- a cycle: its edges in order
unfoldable pub cycle_tree_v1 : NameLists → List (Edge × Sample) → List ℕ → Data
cycle_tree_v1 names table cycle =
    array (items_of (map (edge_tree_v1 names) (filter_map (slice_get table) cycle)))

-- the whole report
unfoldable pub report_tree_v1 : NameLists → Report → Data
report_tree_v1 names report =
    object (member (codes "cycles")
    (array (items_of (map (cycle_tree_v1 names report.edges) report.found.cycles)))
    (member (codes "format") (number (unsigned 1))
    (member (codes "len") (number (unsigned report.query.len))
    (member (codes "max") (number (unsigned report.query.max))
    (member (codes "mode") (string (mode_name report.query.mode))
    (member (codes "more") (boolean report.found.more) no_members))))))
