-- The findings whose signature begins with a front: what a search of signatures finds below it.
use Rattle.std.specs.Prelude.{ℕ, Bool, cond, List, [], ◌∷◌, ◌++◌, length, map}
use Rattle.std.specs.List.{flat_map, range_with_len}
use Rattle.gl_event.specs.declared.events.Segment.{Segment}
use Rattle.gl_edges.specs.declared.edge.Edge.{Edge}
use Rattle.gl_edges.specs.declared.edge.Sample.{Sample}
use Rattle.gl_filters.specs.declared.query.Mode.{Mode}
use Rattle.gl_cycles.specs.AllCycles.{lists_below}
use Rattle.gl_findings.specs.Findings.{begins_least, first_with}

module _ (before : Segment → Segment → Bool) (mode : Mode) (len : ℕ)
    (table : List (Edge × Sample)) where
  -- the finding of a signature, where it begins where it is to be told from and has a cycle
  abbrev pub finding : List ℕ → List (List ℕ)
  finding signature = cond (begins_least signature) (first_with before mode len table signature) []

  -- the findings whose signature is this front and at most n more classes
  unfoldable pub block : ℕ → List ℕ → List (List ℕ)
  block n front = flat_map finding (map (λ rest. front ++ rest) (lists_below (length table) n))

  -- those that go on from the front with a class below k, and at most n more
  abbrev pub blocks_below : ℕ → List ℕ → ℕ → List (List ℕ)
  blocks_below n front k = flat_map (λ i. block n (front ++ i ∷ [])) (range_with_len 0 k)
