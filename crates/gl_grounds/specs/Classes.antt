-- Classes of edges: those made at the same pair of places are one.
use Rattle.std.specs.Prelude.{ℕ, Bool, ◌&&◌, ◌==◌, nat_eq, List, map}
use Rattle.std.specs.List.{position_or_len}
use Rattle.gl_edges.specs.declared.edge.Edge.{Edge}
use Rattle.gl_edges.specs.declared.edge.Sample.{Sample}

-- two edges were made at the same pair of places: where the held lock was acquired, and where the wanted one is asked for
abbrev pub same_places : Edge × Sample → Edge × Sample → Bool
same_places a b = (a.1.held_loc == b.1.held_loc) && (a.1.wanted_loc == b.1.wanted_loc)

-- the class of an edge: the position of the first edge that was made at the same places
abbrev pub class_of : List (Edge × Sample) → Edge × Sample → ℕ
class_of table pair = position_or_len (same_places pair) table

abbrev pub classes_of : List (Edge × Sample) → List ℕ
classes_of table = map (class_of table) table

-- the places where an edge was made
abbrev pub places_of : Edge × Sample → ℕ × ℕ
places_of pair = (pair.1.held_loc, pair.1.wanted_loc)

-- the same two places
abbrev pub are_places : ℕ × ℕ → ℕ × ℕ → Bool
are_places a b = nat_eq a.0 b.0 && nat_eq a.1 b.1
