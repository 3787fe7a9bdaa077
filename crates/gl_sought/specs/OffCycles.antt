-- Edges that a search may leave out: those that are in no cycle.
use Rattle.std.specs.Prelude.{◌≡◌, ℕ, Bool, false, List, length, slice_get, Some, All, Contains}
use Rattle.gl_event.specs.declared.events.Segment.{Segment}
use Rattle.gl_edges.specs.declared.edge.Edge.{Edge}
use Rattle.gl_filters.specs.declared.query.Mode.{Mode}
use Rattle.gl_filters.specs.Cycle.{IsCycle}

module _ (before : Segment → Segment → Bool) (mode : Mode) (len : ℕ) (edges : List Edge) where
  -- the edge is in no cycle of this mode, of at most len of these edges
  abbrev pub IsOffCycles : Edge → Type 0
  IsOffCycles e =
      (cycle : List Edge) → All (Contains edges) cycle → IsCycle before mode len cycle
      → ¬ Contains cycle e

  -- the flags leave out only edges that are in no such cycle
  pub record KeepsCycles (kept : List Bool) : Type 0 where
    -- there is a flag for each edge
    pub long : length kept ≡ length edges
    -- and what it leaves out is in no cycle
    pub left_out : (i : ℕ) (e : Edge) → slice_get edges i ≡ Some e → slice_get kept i ≡ Some false
        → IsOffCycles e
