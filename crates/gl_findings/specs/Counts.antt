-- What is counted of a class of edges: how many threads made them, and on how many locks.
use Rattle.std.specs.Prelude.{List, [], ◌∷◌, map, filter, nat_eq}
use Rattle.std.specs.List.{flat_map}
use Rattle.std.specs.Set.{distinct_count}
use Rattle.gl_edges.specs.declared.edge.Edge.{Edge}
use Rattle.gl_edges.specs.declared.edge.Sample.{Sample}
use Rattle.gl_grounds.specs.Classes.{same_places}
use Rattle.gl_findings.specs.declared.counts.ClassCounts.{ClassCounts}

-- the edges of an edge's class
abbrev pub class_edges : List (Edge × Sample) → Edge × Sample → List (Edge × Sample)
class_edges table pair = filter (same_places pair) table

-- how many different threads made them, and how many different locks they hold or want
abbrev pub counts_of : List (Edge × Sample) → Edge × Sample → ClassCounts
counts_of table pair =
    record {
      threads = distinct_count nat_eq (map (λ p. p.0.thread) (class_edges table pair));
      locks =
          distinct_count nat_eq
          (flat_map (λ p. p.0.held ∷ p.0.wanted ∷ []) (class_edges table pair));
    }
