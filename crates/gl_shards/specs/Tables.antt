-- Tables of edges, taken together.
use Rattle.std.specs.Prelude.{ℕ, List, [], ◌∷◌, ◌++◌, filter, ◌==◌}
use Rattle.std.specs.List.{flat_map}
use Rattle.gl_edges.specs.Edges.{once}
use Rattle.gl_edges.specs.declared.edge.Edge.{Edge}
use Rattle.gl_edges.specs.declared.edge.Sample.{Sample}
use Rattle.gl_shards.specs.Shards.{shard_of}

-- all pairs of these tables, one table after the other
abbrev pub all_pairs : List (List (Edge × Sample)) → List (Edge × Sample)
all_pairs tables = flat_map (λ table. table) tables

-- the edges of these tables: each once, ascending, with its least sample
abbrev pub union : List (List (Edge × Sample)) → List (Edge × Sample)
union tables = once (all_pairs tables)

-- the table after these pairs are inserted, one after the other
abbrev pub filled : List (Edge × Sample) → List (Edge × Sample) → List (Edge × Sample)
filled table [] = table
filled table (pair ∷ pairs) = filled (once (table ++ pair ∷ [])) pairs

-- those of the pairs that belong to one of so many shards
abbrev pub of_shard : ℕ → List (Edge × Sample) → ℕ → List (Edge × Sample)
of_shard shards pairs shard = filter (λ pair. shard_of pair.0 shards == shard) pairs
