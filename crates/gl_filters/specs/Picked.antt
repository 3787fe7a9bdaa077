-- Edges of a table, by their positions.
use Rattle.std.specs.Prelude.{ℕ, ◌<◌, List, map, length, slice_get, All}
use Rattle.std.specs.List.{filter_map}
use Rattle.gl_edges.specs.declared.edge.Edge.{Edge}
use Rattle.gl_edges.specs.declared.edge.Sample.{Sample}

-- the edges of a table, without their samples
abbrev pub edges_of_table : List (Edge × Sample) → List Edge
edges_of_table table = map (λ pair. pair.0) table

-- the edges at these positions
abbrev pub picked : List Edge → List ℕ → List Edge
picked edges positions = filter_map (slice_get edges) positions

-- the edges of a table at these positions
abbrev pub edges_picked : List (Edge × Sample) → List ℕ → List Edge
edges_picked table positions = picked (edges_of_table table) positions

-- each of these positions is one of the table's
abbrev pub AreWithin : List (Edge × Sample) → List ℕ → Type 0
AreWithin table positions = All (λ p. p < length table) positions
