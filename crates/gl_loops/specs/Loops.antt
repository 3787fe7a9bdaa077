-- Loops of edges, and edges that lie on none.
use Rattle.std.specs.Prelude.{◌≡◌, ℕ, ◌≤◌, Bool, true, false, List, length, slice_get, Some, All, Contains}
use Rattle.gl_edges.specs.declared.edge.Edge.{Edge}
use Rattle.gl_filters.specs.Test.{lead_on, leads_back}

-- a loop of these edges: each one leads on to the next, and the last one to the first
pub record IsLoop (edges : List Edge) (loop : List Edge) : Type 0 where
  pub among : All (Contains edges) loop
  pub leads_on : lead_on loop ≡ true
  pub leads_back : leads_back loop ≡ true

-- the edge lies on no loop of these edges
abbrev pub IsOffLoops : List Edge → Edge → Type 0
IsOffLoops edges e = (loop : List Edge) → IsLoop edges loop → ¬ Contains loop e

-- the flags leave out only edges that lie on no loop
pub record KeepsLoops (edges : List Edge) (kept : List Bool) : Type 0 where
  -- there is a flag for each edge
  pub long : length kept ≡ length edges
  -- and what it leaves out is on no loop
  pub left_out : (i : ℕ) (e : Edge) → slice_get edges i ≡ Some e → slice_get kept i ≡ Some false
      → IsOffLoops edges e

-- ranks of locks that never fall along an edge: a certificate that an edge along which the rank rises is in no cycle
abbrev pub IsNeverFalling : (ℕ → ℕ) → List Edge → Type 0
IsNeverFalling rank edges = All (λ e. rank e.held ≤ rank e.wanted) edges
