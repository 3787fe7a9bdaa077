-- How many edges a cycle has at most, by an edge that is in it.
use Rattle.std.specs.Prelude.{◌≡◌, ℕ, ◌<◌, ◌≤◌, Bool, List, length, slice_get, Some, All, Contains}
use Rattle.gl_event.specs.declared.events.Segment.{Segment}
use Rattle.gl_edges.specs.declared.edge.Edge.{Edge}
use Rattle.gl_filters.specs.declared.query.Mode.{Mode}
use Rattle.gl_filters.specs.Cycle.{IsCycle}

module _ (before : Segment → Segment → Bool) (mode : Mode) (len : ℕ) (edges : List Edge) where
  -- no cycle of this mode, of at most len of these edges, that the edge is in has more edges than this
  abbrev pub NoneLonger : Edge → ℕ → Type 0
  NoneLonger e limit =
      (cycle : List Edge) → All (Contains edges) cycle → IsCycle before mode len cycle
      → Contains cycle e → length cycle ≤ limit

  -- so it is for the edge at a position, and the number is no more than len
  pub record IsLimit (position limit : ℕ) : Type 0 where
    pub some : 0 < limit
    pub short : limit ≤ len
    pub longest : (e : Edge) → slice_get edges position ≡ Some e → NoneLonger e limit

  -- there is such a number for each edge
  pub record AreLimits (limits : List ℕ) : Type 0 where
    pub long : length limits ≡ length edges
    pub each : (position limit : ℕ) → slice_get limits position ≡ Some limit
        → IsLimit position limit
