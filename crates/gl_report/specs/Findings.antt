-- Findings as JSON, of format 3: which values stand under which keys.
use Rattle.std.specs.Prelude.{List, map, codes}
use Rattle.serde_json.specs.Data.{Data, unsigned, boolean, number, string, array, object, member, no_members}
use Rattle.serde_json.specs.View.{items_of}
use Rattle.gl_std.specs.Names.{NameLists}
use Rattle.gl_edges.specs.declared.edge.Edge.{Edge}
use Rattle.gl_edges.specs.declared.edge.Sample.{Sample}
use Rattle.gl_filters.specs.Asked.{Asked, mode_name}
use Rattle.gl_cycles.specs.declared.found.Found.{Found}
use Rattle.gl_report.specs.Tree.{edge_tree, positions_tree}

-- each edge once, and for each finding the positions of the edges of the cycle that shows it
unfoldable pub findings_tree : NameLists → Asked → List (Edge × Sample) → Found → Data
findings_tree names asked table found =
    object (member (codes "edges") (array (items_of (map (edge_tree names) table)))
    (member (codes "findings") (array (items_of (map positions_tree found.cycles)))
    (member (codes "format") (number (unsigned 3))
    (member (codes "len") (number (unsigned asked.len))
    (member (codes "max") (number (unsigned asked.max))
    (member (codes "mode") (string (mode_name asked.mode))
    (member (codes "more") (boolean found.more) no_members)))))))
