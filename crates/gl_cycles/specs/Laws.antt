-- What holds of all cycles over a list of edges.
use Rattle.std.specs.Prelude.{ℕ, ◌<◌, Bool, List, length, All}
use Rattle.gl_event.specs.declared.events.Segment.{Segment}
use Rattle.gl_edges.specs.declared.edge.Edge.{Edge}
use Rattle.gl_filters.specs.declared.query.Mode.{Mode}
use Rattle.gl_filters.specs.Cycle.{IsCycle}
use Rattle.gl_filters.specs.Picked.{picked}

-- these are the positions of the edges of a cycle of this mode, of at most len edges
pub record IsCycleAt (before : Segment → Segment → Bool) (mode : Mode) (len : ℕ) (edges : List Edge)
    (positions : List ℕ) : Type 0 where
  -- an edge stands at each of them
  pub within : All (λ i. i < length edges) positions
  -- and these are a cycle
  pub cycle : IsCycle before mode len (picked edges positions)
