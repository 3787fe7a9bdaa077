-- A table of edges while it is filled.
use Rattle.std.specs.Prelude.{◌≡◌, List, ◌++◌}
use Rattle.gl_edges.specs.Edges.{once}
use Rattle.gl_edges.specs.declared.edge.Edge.{Edge}
use Rattle.gl_edges.specs.declared.edge.Sample.{Sample}

-- the table has each edge of these pairs, with its least sample
pub record IsTableOf (table pairs : List (Edge × Sample)) : Type 0 where
  -- once, ascending
  pub is : table ≡ once pairs

-- the table has these pairs besides those that it had before
abbrev pub HasAdded : List (Edge × Sample) → List (Edge × Sample) → List (Edge × Sample) → Type 0
HasAdded more before after =
    (pairs : List (Edge × Sample)) → IsTableOf before pairs → IsTableOf after (pairs ++ more)
